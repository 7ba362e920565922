-- Every call keeps the layout and does what the plain machine's call does, and so does every list of calls.
use mathlib.Core.Path.{◌≡◌, refl}
use mathlib.Core.List.{List, [], ◌∷◌, ◌++◌, map}
use Rattle.carts.specs.Transaction.{Transaction}
use Rattle.replication.specs.Memory.{Memory}
use Rattle.replication.specs.Call.{Call, Turn, commit, preview, send, refresh, read, collect, forward, write, move, load, retire, run, final}
use Rattle.replication.specs.Calls as Bytes
use Rattle.replication.specs.Calls.{After, Rule, number_after}
use Rattle.replication.specs.declared.control.Control.{Control}
use Rattle.machine.specs.Machine as Plain
use Rattle.machine.specs.Machine.{Session, Machine, Step}
use Rattle.machine.specs.OneCopy.{event_of, history, counted_history}
use Rattle.machine.proofs.Entries.{plain_event, plain_history, plain_counted}
use Rattle.refinement.specs.Represents.{OfLayout, Represents, Simulates}
use Rattle.refinement.proofs.Represented.{machine_of, by_machine, log_length}
use Rattle.refinement.proofs.Send.{send_keeps, send_simulates}
use Rattle.refinement.proofs.Refresh.{refresh_keeps, refresh_simulates}
use Rattle.refinement.proofs.Read.{Bounded, after_bounded, read_keeps, read_simulates, forward_keeps, forward_simulates, collect_keeps, collect_simulates}
use Rattle.refinement.proofs.Commit.{commit_keeps, commit_simulates}
use Rattle.refinement.proofs.Preview.{preview_keeps, preview_simulates}
use Rattle.refinement.proofs.Write.{write_keeps, write_simulates}
use Rattle.refinement.proofs.Move.{move_keeps, move_simulates}
use Rattle.refinement.proofs.Load.{load_keeps, load_simulates}
use Rattle.refinement.proofs.Retire.{retire_keeps, retire_simulates}

-- from any control and memory of the layout, also where a copy is no L(n); by any rule that leaves no number above commits
module _ (rule : Rule) (bound : Bounded rule) (c : Control) (m : Memory) (h : OfLayout c m) where
  pub keeps_layout_by : (x : Call) → OfLayout (Bytes.call_by rule c m x).control (Bytes.call_by rule c m x).memory
  unfolding Bytes.call_by
  keeps_layout_by (commit s bytes) = commit_keeps c m s bytes h
  keeps_layout_by (preview s bytes) = preview_keeps c m s bytes h
  keeps_layout_by (send i) = send_keeps c m i h
  keeps_layout_by (refresh i) = refresh_keeps c m i h
  keeps_layout_by (read s request out) = read_keeps c m s request out rule bound h
  keeps_layout_by (collect s out) = collect_keeps c m s out rule bound h
  keeps_layout_by (forward s request out) = forward_keeps c m s request out rule bound h
  keeps_layout_by (write n out) = write_keeps c m n out h
  keeps_layout_by (move s i) = move_keeps c m s i h
  keeps_layout_by load = load_keeps c m h
  keeps_layout_by retire = retire_keeps c m h

pub keeps_layout : (c : Control) (m : Memory) → OfLayout c m → (x : Call) → OfLayout (Bytes.call c m x).control (Bytes.call c m x).memory
keeps_layout = keeps_layout_by number_after after_bounded

pub simulates : (c : Control) (m : Memory) (M : Machine) → Represents c m M → (x : Call) → Simulates (Bytes.call c m x) (Plain.call M x)
unfolding Bytes.call_by Plain.call
simulates c m M h x = by_machine c m (λ M. Simulates (Bytes.call c m x) (Plain.call M x)) (case x) M h
  where
    case : (x : Call) (log : List Transaction) (sessions : List Session) → Represents c m (machine_of c log sessions)
        → Simulates (Bytes.call c m x) (Plain.call (machine_of c log sessions) x)
    case (commit s bytes) = commit_simulates c m s bytes
    case (preview s bytes) = preview_simulates c m s bytes
    case (send i) = send_simulates c m i
    case (refresh i) = refresh_simulates c m i
    case (read s request out) = read_simulates c m s request out
    case (collect s out) = collect_simulates c m s out
    case (forward s request out) = forward_simulates c m s request out
    case (write n out) = write_simulates c m n out
    case (move s i) = move_simulates c m s i
    case load = load_simulates c m
    case retire = retire_simulates c m

-- a list of calls: what it leaves, and its answers and outputs
pub layout_after : (H : List Call) (r : After) → OfLayout r.control r.memory → OfLayout (Bytes.after_calls r H).control (Bytes.after_calls r H).memory
unfolding run final
layout_after [] r h = h
layout_after (x ∷ H) r h = layout_after H _ (keeps_layout r.control r.memory h x)

pub simulates_after : (H : List Call) (r : After) (p : Step) → Simulates r p → Simulates (Bytes.after_calls r H) (Plain.after_calls p H)
unfolding run final
simulates_after [] r p h = h
simulates_after (x ∷ H) r p h = simulates_after H _ _ (simulates r.control r.memory p.next h.next x)

-- a call, a list, and a call more
pub simulates_then : (r : After) (p : Step) → Simulates r p → (x : Call) (H : List Call) (y : Call) →
    let t = Bytes.call r.control r.memory x in
    let q = Plain.call p.next x in
    let v = Bytes.after_calls t H in
    Simulates t q × Simulates (Bytes.call v.control v.memory y) (Plain.call (Plain.after_calls q H).next y)
simulates_then r p h x H y =
    let one = simulates r.control r.memory p.next h.next x in
    (one, simulates _ _ _ (simulates_after H _ _ one).next y)

-- a list in two parts
pub after_joined : (H K : List Call) (r : After) → Bytes.after_calls r (H ++ K) ≡ Bytes.after_calls (Bytes.after_calls r H) K
unfolding run final
after_joined [] K r = refl
after_joined (x ∷ H) K r = after_joined H K (Bytes.call r.control r.memory x)

pub history_joined : (H K : List Call) (r : After) → history r (H ++ K) ≡ history r H ++ history (Bytes.after_calls r H) K
unfolding history run final
history_joined [] K r = refl
history_joined (x ∷ H) K r = cc (history_joined H K (Bytes.call r.control r.memory x))

-- what is the same of two turns is the same all along a list
same_turns : {B : Type 0} (f : Turn After → B) (g : Turn Step → B)
    → ((x : Call) (r : After) (p : Step) → Simulates r p → f (record { call = x; left = r }) ≡ g (record { call = x; left = p }))
    → (H : List Call) (r : After) (p : Step) → Simulates r p → map f (Bytes.run r H) ≡ map g (Plain.run p H)
unfolding run
same_turns f g same [] r p h = refl
same_turns f g same (x ∷ H) r p h =
    let s = simulates r.control r.memory p.next h.next x in
    cc (same x _ _ s, same_turns f g same H _ _ s)

pub same_history : (H : List Call) (r : After) (p : Step) → Simulates r p → history r H ≡ plain_history p H
unfolding history plain_history
same_history = same_turns event_of plain_event (λ x r p s. cc (s.answer, s.output))

pub same_counted : (H : List Call) (r : After) (p : Step) → Simulates r p → counted_history r H ≡ plain_counted p H
unfolding counted_history plain_counted
same_counted = same_turns _ _ (λ x r p s. cc (s.answer, s.output, log_length _ _ _ s.next))
