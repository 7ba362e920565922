-- THEOREMS about the calls on bytes, in the words of documents 01 and 02. H is any list of the calls of `Call`. A fresh system is what an accepted setup leaves, for
-- any S, any studio bytes and any memory before it. What "stand for" means is the record Represents; "of the layout" is the record OfLayout.
use mathlib.Core.Path.{◌≡◌, sym, ap, ap₂, ◌∙◌, fun_ext, subst, subst₂}
use mathlib.Core.Bool.{true, false, not}
use mathlib.Core.List.{List, [], ◌∷◌, ◌++◌, map}
use Prim.Native.Nat.{ℕ, suc, ◌*◌, ◌-◌, ◌≤◌, ◌<◌, max}
use lib.ListN.{length, drop, get_or}
use Rattle.carts.specs.Bytes.{zeros, part, over, u16, every}
use Rattle.carts.specs.Cart.{cart_at, has_title}
use Rattle.carts.specs.Operation.{operation_form, writes_title, spaced, operations_of}
use Rattle.carts.specs.Transaction.{L}
use Rattle.replication.specs.Answer.{refused, done, waits, answered}
use Rattle.replication.specs.Memory.{Memory, Arrays, lengths_form, copy_at, session_at, sequence_of, with_number, nth, studio_of}
use Rattle.replication.specs.Log.{logged}
use Rattle.replication.specs.Request.{by_numbers, by_title, request_of, is_waiting, needed, found_in, shown_from}
use Rattle.replication.specs.Rows.{row, stopped, memory_rows, session_row, size_form, read_stop, move_stop}
use Rattle.replication.specs.Call as Call
use Rattle.replication.specs.Call.{Call}
use Rattle.replication.specs.Calls as Bytes
use Rattle.replication.specs.Calls.{After, after, with_sessions, number_kept, with_studio, control_of, setup, after_calls}
use Rattle.replication.specs.declared.control.Control.{Control}
use Rattle.machine.specs.Machine as Plain
use Rattle.machine.specs.Machine.{Machine, Step}
use Rattle.machine.specs.Library.{Library}
use Rattle.machine.specs.OneCopy.{event, Entry, OneCopy, history, entries_from, loaded_library, Demand3, Loadable, Demand3Loaded}
use Rattle.machine.specs.Asked.{asked, asker}
use Rattle.machine.specs.Titles.{title_in, spares, Writes, ShowsTheOne}
use Rattle.machine.proofs.Sound.{Sound, setup_case}
use Rattle.machine.proofs.Spaces.{setup_unspaced, after_unspaced}
use Rattle.machine.proofs.MetLaws.{Met, load_accepts, fresh_met}
use Rattle.machine.proofs.Entries.{plain_history}
use Rattle.machine.specs.Table.{studio_bytes, cases2to10, calls_of, Table}
use Rattle.machine.proofs.Table.{start, started, none_retired, table}
use Rattle.machine.proofs.Messages as Messages
use Rattle.machine.proofs.Messages.{writing}
use Rattle.machine.specs.Taken.{taking}
use Rattle.machine.proofs.Taken as Taken
use Rattle.machine.specs.Forwarded.{hour}
use Rattle.machine.proofs.Forwarded as Forwarded
use Rattle.machine.specs.Moved.{walk}
use Rattle.machine.proofs.Moved as Walk
use Rattle.machine.specs.Restarted.{morning, afternoon}
use Rattle.machine.proofs.Restarted as Restarted
use Rattle.machine.specs.Retired.{Unneeded, Level, retirings, week, weekend}
use Rattle.machine.proofs.Retired as Retired
use Rattle.machine.proofs.Needed.{sound_unneeded}
use Rattle.machine.proofs.NotFull.{retiring, emptied_answers, emptied_room}
use Rattle.refinement.specs.Represents.{OfLayout, Represents, Stands, Simulates}
use Rattle.refinement.specs.Lent.{lent}
use Rattle.refinement.specs.Unmoved.{SameWithoutMoves}
use Rattle.refinement.proofs.Represented.{log_length, kept_log}
use Rattle.refinement.proofs.Setup as Setup
use Rattle.refinement.proofs.Refused as Refused
use Rattle.refinement.proofs.Preview as Preview
use Rattle.refinement.proofs.Write as Write
use Rattle.refinement.proofs.Unchanging.{goes_on, call_between, call_leaves}
use Rattle.refinement.proofs.Simulation as Simulation
use Rattle.refinement.proofs.Load as Load
use Rattle.refinement.proofs.Standing as Standing
use Rattle.refinement.proofs.Standing.{represents_sound}
use Rattle.refinement.proofs.OneCopyOrder as OneCopyOrder
use Rattle.refinement.proofs.Told as Told
use Rattle.refinement.proofs.Forward as Forward
use Rattle.refinement.proofs.Moved as Moved
use Rattle.refinement.proofs.Unmoved as Unmoved
use Rattle.refinement.proofs.Titles as Titles

-- LAYOUT. Every call, accepted, waiting or refused, keeps the layout, from any control and memory of it, also where a copy is no L(n); so does every list.
pub keeps_layout : (c : Control) (m : Memory) → OfLayout c m → (x : Call) → OfLayout (Bytes.call c m x).control (Bytes.call c m x).memory
keeps_layout = Simulation.keeps_layout

pub list_keeps_layout : (H : List Call) (r : After) → OfLayout r.control r.memory → OfLayout (after_calls r H).control (after_calls r H).memory
list_keeps_layout = Simulation.layout_after

-- ONE CALL. Where the bytes stand for a state of the plain machine, every call gives the plain machine's answer and output, and leaves bytes that stand for
-- what the call leaves of the plain machine.
pub simulates : (c : Control) (m : Memory) (M : Machine) → Represents c m M → (x : Call) → Simulates (Bytes.call c m x) (Plain.call M x)
simulates = Simulation.simulates

-- REFUSALS. From any control and memory, also not of the layout, a refused call hands back control as it was passed and leaves every lent byte as it
-- was, unless it is a commit refused with 8. A refused setup hands back the all-zero control.
pub refused_changes_nothing : (n : ℕ) (c : Control) (m : Memory) (x : Call) → (Bytes.call c m x).answer ≡ refused n
    → ((s : ℕ) (bytes : List ℕ) → x ≡ Call.commit s bytes → n ≡ 8 → ⊥) → Bytes.call c m x ≡ after (refused n) c m (lent x)
refused_changes_nothing = Refused.call_refused

-- 02, S-3. A commit refused with 8 hands back control as it was passed, and leaves its session with the number commits and every other lent byte as it was.
pub told_leaves : (c : Control) (m : Memory) (s : ℕ) (bytes : List ℕ) → (Bytes.call c m (Call.commit s bytes)).answer ≡ refused 8
    → Bytes.call c m (Call.commit s bytes) ≡ after (refused 8) c (with_sessions m (with_number m.sessions s c.commits)) (lent (Call.commit s bytes))
unfolding Bytes.call_by lent
told_leaves = Refused.told_leaves

pub refused_setup : (n : ℕ) (before : Memory) (studios : ℕ) (bytes : List ℕ) → (setup before studios bytes).answer ≡ refused n
    → setup before studios bytes ≡ after (refused n) (control_of 0 (zeros 16) 0 0) before []
refused_setup = Refused.setup_refused

-- LISTS. The answers and outputs of a list are those of its first part, and then those of the rest from what the first part left.
pub history_joined : (r : After) (H K : List Call) → history r (H ++ K) ≡ history r H ++ history (after_calls r H) K
history_joined r H K = Simulation.history_joined H K r

-- PREVIEW (02, S-1). "For every input it returns the number or refusal that commit would. It changes nothing that was lent or passed." For every
-- control, memory, session and operations.
pub preview_answers : (c : Control) (m : Memory) (s : ℕ) (bytes : List ℕ)
    → Bytes.call c m (Call.preview s bytes) ≡ after (Bytes.call c m (Call.commit s bytes)).answer c m (lent (Call.preview s bytes))
preview_answers = Preview.preview_answers

-- A preview between H and K, any parts of any list: it gives the answer that commit would give there. By history-joined, all other calls give the same
-- answers and outputs with it and without it; and the list leaves the same control and memory.
module _ (r : After) (H K : List Call) (s : ℕ) (bytes : List ℕ) where
  pub with_preview : let left = after_calls r H in
      history r (H ++ (Call.preview s bytes ∷ K))
      ≡ history r H ++ (event (Call.preview s bytes) (Bytes.commit left.control left.memory s bytes).answer [] ∷ history left K)
  unfolding Bytes.call_by Bytes.preview
  with_preview = call_between (Call.preview s bytes) (Preview.preview_unchanging s bytes) K H r

  pub preview_leaves : ((after_calls r (H ++ (Call.preview s bytes ∷ K))).control ≡ (after_calls r (H ++ K)).control)
      × ((after_calls r (H ++ (Call.preview s bytes ∷ K))).memory ≡ (after_calls r (H ++ K)).memory)
  preview_leaves = call_leaves (Call.preview s bytes) (Preview.preview_unchanging s bytes) K H r

-- TOLD (02, S-3). From any control and memory, after a commit refused with 8: its session's number is commits; a read of the session straight afterwards that
-- no row stops waits for them, where its studio has not applied so many.
module _ (c : Control) (m : Memory) (s : ℕ) (bytes : List ℕ) (told : (Bytes.call c m (Call.commit s bytes)).answer ≡ refused 8) where
  abbrev told_memory : Memory
  told_memory = (Bytes.call c m (Call.commit s bytes)).memory

  pub told_number : sequence_of (session_at told_memory.sessions s) ≡ c.commits
  unfolding Bytes.call_by
  told_number = Told.told_number c m s bytes told

  pub told_waits : (request out : List ℕ) → nth c.applied (studio_of c s) < c.commits → read_stop c told_memory s request (length out) ≡ 0
      → (Bytes.call c told_memory (Call.read s request out)).answer ≡ waits c.commits
  unfolding Bytes.call_by
  told_waits = Told.told_waits c m s bytes told

-- FORWARD (02, S-4). From any control and memory. "Where the studio's copy has reached the session's number, it answers exactly as read does": the same answer,
-- control, memory and output. So it does where a row stops it, "with read's .. checks and order".
module _ (c : Control) (m : Memory) (s : ℕ) (request out : List ℕ) where
  pub forward_as_read : sequence_of (session_at m.sessions s) ≤ nth c.applied (studio_of c s)
      → Bytes.call c m (Call.forward s request out) ≡ Bytes.call c m (Call.read s request out)
  unfolding Bytes.call_by
  forward_as_read = Forward.as_read c m s request out

  pub forward_stopped : (n : ℕ) → read_stop c m s request (length out) ≡ suc n → Bytes.call c m (Call.forward s request out) ≡ Bytes.call c m (Call.read s request out)
  unfolding Bytes.call_by
  forward_stopped = Forward.stopped_as_read c m s request out

  -- It never waits.
  pub forward_never_waits : (n : ℕ) → (Bytes.call c m (Call.forward s request out)).answer ≡ waits n → ⊥
  unfolding Bytes.call_by
  forward_never_waits = Forward.never_waits c m s request out

  -- Which copy answered can be told by the state: the studio's with what it has applied, the head end's with commits, which is more.
  pub forward_state : (k found : ℕ) → (Bytes.call c m (Call.forward s request out)).answer ≡ answered k found →
      let number = sequence_of (session_at m.sessions s) in
      let applied = nth c.applied (studio_of c s) in
      (number ≤ applied → k ≡ applied) × (applied < number → (k ≡ c.commits) × (applied < k))
  unfolding Bytes.call_by
  forward_state = Forward.state_told c m s request out

  module _ (passes : read_stop c m s request (length out) ≡ 0) (behind : nth c.applied (studio_of c s) < sequence_of (session_at m.sessions s)) where
    -- "Otherwise it answers from the head end's copy with state commits, and the session's number becomes commits": every other lent byte stays, output's later
    -- bytes too, and no request is stored.
    pub forward_by_primary : let copy = copy_at m.library 0 in
        let q = request_of request in
        Bytes.call c m (Call.forward s request out)
        ≡ after (answered c.commits (found_in copy q)) c (with_sessions m (with_number m.sessions s c.commits)) (over out 0 (needed q) (shown_from copy q))
    unfolding Bytes.call_by
    forward_by_primary = Forward.by_primary_law c m s request out behind passes

    -- A read of the session straight afterwards that no row stops waits, and that state is the number that its studio has to apply first.
    pub forwarded_waits : (next lent : List ℕ) → let r = Bytes.call c m (Call.forward s request out) in
        read_stop r.control r.memory s next (length lent) ≡ 0 → (Bytes.call r.control r.memory (Call.read s next lent)).answer ≡ waits c.commits
    unfolding Bytes.call_by
    forwarded_waits = Forward.forwarded_waits c m s request out passes behind

-- THE VAN'S WRITER (02, S-6). From any control and memory it changes neither, refused or not. Between H and K, any parts of any list, all other calls give the same answers and
-- outputs with it and without it, and the list leaves the same control and memory.
pub write_unchanging : (n : ℕ) (out : List ℕ) (c : Control) (m : Memory) → ((Bytes.call c m (Call.write n out)).control ≡ c) × ((Bytes.call c m (Call.write n out)).memory ≡ m)
write_unchanging = Write.write_unchanging

module _ (r : After) (H K : List Call) (n : ℕ) (out : List ℕ) where
  pub with_write : let left = after_calls r H in
      let there = Bytes.call left.control left.memory (Call.write n out) in
      history r (H ++ (Call.write n out ∷ K)) ≡ history r H ++ (event (Call.write n out) there.answer there.output ∷ history left K)
  with_write = call_between (Call.write n out) (write_unchanging n out) K H r

  pub write_leaves : ((after_calls r (H ++ (Call.write n out ∷ K))).control ≡ (after_calls r (H ++ K)).control)
      × ((after_calls r (H ++ (Call.write n out ∷ K))).memory ≡ (after_calls r (H ++ K)).memory)
  write_leaves = call_leaves (Call.write n out) (write_unchanging n out) K H r

-- MOVE (02, S-7). From any control and memory a move that no row stops returns the studio, which is its session's in control from then on. No other field of
-- control and no lent byte changes, so the session keeps its number. To the studio where the session is, it changes nothing.
module _ (c : Control) (m : Memory) (s i : ℕ) where
  pub move_leaves : move_stop c m s i ≡ 0 → Bytes.call c m (Call.move s i) ≡ after (done i) (with_studio c s i) m (lent (Call.move s i))
  unfolding Bytes.call_by lent
  move_leaves = Moved.move_leaves c m s i

  pub move_here : i ≡ studio_of c s → with_studio c s i ≡ c
  move_here = Moved.move_here c m s i

-- "a read answered by any reading call or by collect now raises the session's number to the state it showed, if that is higher": from any control and memory.
pub answered_raises : (c : Control) (m : Memory) (x : Call) (k found : ℕ) → let shown = Bytes.call c m x in shown.answer ≡ answered k found
    → sequence_of (session_at shown.memory.sessions (asker x)) ≡ max (sequence_of (session_at m.sessions (asker x))) k
answered_raises c m x k found = Moved.call_raises c m k found x

-- So whoever was shown state k, from any control and memory of the layout, and moves to a studio that has applied fewer, waits there: a read straight afterwards
-- that no row stops.
pub moved_waits : (c : Control) (m : Memory) → OfLayout c m → (x : Call) (k found : ℕ) → let shown = Bytes.call c m x in shown.answer ≡ answered k found
    → (i : ℕ) → move_stop shown.control shown.memory (asker x) i ≡ 0 → nth shown.control.applied i < k
    → let there = Bytes.call shown.control shown.memory (Call.move (asker x) i) in
    (request out : List ℕ) → read_stop there.control there.memory (asker x) request (length out) ≡ 0
    → (Bytes.call there.control there.memory (Call.read (asker x) request out)).answer ≡ waits (max (sequence_of (session_at m.sessions (asker x))) k)
unfolding Bytes.call_by
moved_waits c m h x k found answer = Moved.shown_moved_waits c m h k found x answer

-- By the rule of before (`number_kept`), from any control and memory of the layout, whoever was shown state k by a read and moves to a studio that has reached the
-- session's number is not made to wait: a read straight afterwards that no row stops is answered with what that studio has applied, also where that is fewer than k.
pub kept_walks_back : (c : Control) (m : Memory) → OfLayout c m → (s : ℕ) (request out : List ℕ) (k found : ℕ) → let shown = Bytes.call_by number_kept c m (Call.read s request out) in
    shown.answer ≡ answered k found → (i : ℕ) → move_stop shown.control shown.memory s i ≡ 0 → sequence_of (session_at m.sessions s) ≤ nth c.applied i
    → let there = Bytes.call_by number_kept shown.control shown.memory (Call.move s i) in
    (next lent : List ℕ) → read_stop there.control there.memory s next (length lent) ≡ 0
    → (j : ℕ) × ((Bytes.call_by number_kept there.control there.memory (Call.read s next lent)).answer ≡ answered (nth c.applied i) j)
unfolding Bytes.call_by
kept_walks_back = Moved.kept_walks_back

-- LOAD (02, S-8). From any control and memory it changes neither, refused or not. Between H and K, any parts of any list, all other calls give the same answers and outputs with it and
-- without it, and the list leaves the same control and memory.
pub load_unchanging : (c : Control) (m : Memory) → ((Bytes.call c m Call.load).control ≡ c) × ((Bytes.call c m Call.load).memory ≡ m)
load_unchanging = Load.load_unchanging

module _ (r : After) (H K : List Call) where
  pub with_load : let left = after_calls r H in
      let there = Bytes.call left.control left.memory Call.load in
      history r (H ++ (Call.load ∷ K)) ≡ history r H ++ (event Call.load there.answer there.output ∷ history left K)
  with_load = call_between Call.load load_unchanging K H r

  pub load_leaves : ((after_calls r (H ++ (Call.load ∷ K))).control ≡ (after_calls r (H ++ K)).control)
      × ((after_calls r (H ++ (Call.load ∷ K))).memory ≡ (after_calls r (H ++ K)).memory)
  load_leaves = call_leaves Call.load load_unchanging K H r

-- A list K after a load, accepted or not, has the answers and outputs that it would have had without: what was saved whole and is loaded goes on as if it had never stopped.
pub load_goes_on : (r : After) (K : List Call) → history (Bytes.load r.control r.memory) K ≡ history r K
unfolding Bytes.call_by
load_goes_on r K = let (c, m) = Load.load_unchanging r.control r.memory in goes_on K _ r c m

-- WHAT LOAD ACCEPTS. Exactly the control and memory that stand for a state of the plain machine in which each logged operation met its cart (the record Stands), where control's arrays are as the
-- code has them. What is of the layout and does not is refused by 19.
pub load_accepts_only : (c : Control) (m : Memory) (n : ℕ) → Arrays c → (Bytes.load c m).answer ≡ done n → Stands c m
load_accepts_only = Standing.load_stands

pub load_accepts_all : (c : Control) (m : Memory) → Stands c m → (Bytes.load c m).answer ≡ done c.commits
load_accepts_all = Standing.stands_load

pub load_refuses : (c : Control) (m : Memory) → OfLayout c m → (Stands c m → ⊥) → (Bytes.load c m).answer ≡ refused 19
load_refuses = Standing.refused_19

-- "In a list without moves every answer is the same as it was", by the rule of before (`number_kept`), from any control and memory of the layout: every answer and
-- every output; and the list leaves the same but for the sessions' numbers.
pub same_without_moves : SameWithoutMoves
same_without_moves = Unmoved.same_without_moves

-- TITLES. "A title is kept whole or refused." From any control and memory, an accepted commit whose last operation on a cart is a new or a retitle
-- leaves that title in the head end's copy: its length and its 64 bytes.
pub title_kept : (c : Control) (m : Memory) (s : ℕ) (bytes op : List ℕ) (n : ℕ) → Writes bytes op → (Bytes.commit c m s bytes).answer ≡ done n
    → title_in (cart_at (copy_at (Bytes.commit c m s bytes).memory.library 0) (u16 op 2)) ≡ title_in op
title_kept = Titles.primary_title

-- A commit that rows 1 to 5 let pass, with a new or a retitle whose title is of another form, is answered 6.
pub title_refused : (c : Control) (m : Memory) (s : ℕ) (bytes : List ℕ)
    → stopped (memory_rows c m ++ (session_row s (studio_of c s) ∷ row 4 (is_waiting (request_of (session_at m.sessions s))) ∷ row 5 (not (size_form bytes)) ∷ [])) ≡ 0
    → (i : ℕ) → i < length (operations_of bytes) → writes_title (get_or (operations_of bytes) i []) ≡ true → has_title (get_or (operations_of bytes) i []) ≡ false
    → (Bytes.commit c m s bytes).answer ≡ refused 6
title_refused = Titles.title_refused

-- 02, S-2. A commit that rows 1 to 6 let pass, with a new or a retitle whose title begins or ends with a space, is answered 16.
pub spaced_refused : (c : Control) (m : Memory) (s : ℕ) (bytes : List ℕ)
    → stopped (memory_rows c m ++ (session_row s (studio_of c s) ∷ row 4 (is_waiting (request_of (session_at m.sessions s))) ∷ row 5 (not (size_form bytes))
    ∷ row 6 (not (every operation_form (operations_of bytes))) ∷ [])) ≡ 0
    → (i : ℕ) → i < length (operations_of bytes) → spaced (get_or (operations_of bytes) i []) ≡ true → (Bytes.commit c m s bytes).answer ≡ refused 16
spaced_refused = Titles.spaced_refused

-- BEGUN SYSTEMS. r is what stands for a state of the plain machine, p that state: what an accepted setup leaves (setup-simulates) or an accepted load (load-simulates). H is any list.
module _ (r : After) (p : Step) (begun : Simulates r p) (H : List Call) where
  -- what H leaves, on bytes and of the plain machine
  abbrev left : After
  left = after_calls r H

  abbrev plain : Step
  plain = Plain.after_calls p H

  -- ANSWERS. Every answer and every output of H is the plain machine's.
  pub answers : history r H ≡ map (λ t. event t.call t.left.answer t.left.output) (Plain.run p H)
  unfolding plain_history
  answers = Simulation.same_history H r p begun

  -- COPIES. After H the bytes stand for the plain machine's state: the head end's copy is L(commits) and studio i's copy is L(applied of i), of the plain machine's committed
  -- transactions, of which there are `commits`.
  pub simulates_after : Simulates left plain
  simulates_after = Simulation.simulates_after H r p begun

  pub primary : copy_at left.memory.library 0 ≡ L plain.next.log left.control.commits
  primary = simulates_after.next.primary

  pub replica : (i : ℕ) → 1 ≤ i → i ≤ 4 → copy_at left.memory.library i ≡ L plain.next.log (nth left.control.applied i)
  replica = simulates_after.next.replicas

  -- 02, S-9: the sixth copy is L(retired), and the count is the plain machine's.
  pub sixth : copy_at left.memory.library 5 ≡ L plain.next.log left.control.retired
  sixth = simulates_after.next.base

  pub retired : plain.next.retired ≡ left.control.retired
  retired = simulates_after.next.retired

  pub commits : Plain.commits plain.next ≡ left.control.commits
  commits = log_length _ _ _ simulates_after.next

  sound : Sound plain.next
  sound = represents_sound _ _ _ simulates_after.next

  -- NEEDED (02, S-9). After H nobody needs what is retired: no studio 1 to S, which has applied it, and no waiting read, whose transactions up to its session's number are in the log.
  pub unneeded : Unneeded plain.next
  unneeded = sound_unneeded plain.next sound

  -- NOT FULL (02, S-9). Where after H every studio 1 to S has applied every commit, retire is accepted until all is retired: as many calls as there are transactions in the log answer
  -- retired + 1, .., commits. Then no commit is refused with 7, until 65,535 have been used.
  module _ (level : Level left.control.studios left.control.commits left.control.applied) where
    plain_level : Level plain.next.studios (Plain.commits plain.next) plain.next.applied
    plain_level = rw (simulates_after.next.studios, commits, simulates_after.next.applied) level

    abbrev retires : List Call
    retires = calls_of (retirings (left.control.commits - left.control.retired) left.control.retired)

    same_retires : retiring (Plain.commits plain.next - plain.next.retired) plain.next ≡ retires
    same_retires = rw (commits, retired)

    pub all_retired : history left retires ≡ retirings (left.control.commits - left.control.retired) left.control.retired
    all_retired = Simulation.same_history retires left plain simulates_after
        ∙ ap (plain_history plain) (sym same_retires) ∙ emptied_answers plain sound plain_level ∙ rw (commits, retired)

    pub never_full : left.control.commits < 65535 → (s : ℕ) (ops : List ℕ) → let emptied = after_calls left retires in
        (Bytes.call emptied.control emptied.memory (Call.commit s ops)).answer ≡ refused 7 → ⊥
    unfolding Plain.call
    never_full few s ops e =
        let last = Simulation.simulates_after retires left plain simulates_after in
        let same = (Simulation.simulates _ _ _ last.next (Call.commit s ops)).answer in
        emptied_room plain sound plain_level (rw commits few) s ops
        (subst (λ (K : List Call). (Plain.commit (Plain.after_calls plain K).next s ops).answer ≡ refused 7) (sym same_retires) (sym same ∙ e))

  -- 02, S-3. After H a commit is refused with 8, the list goes on with `later`, and then a read, forward or collect of that session is answered: its state has all that was committed
  -- when the session was told.
  pub shown_after : (s : ℕ) (ops : List ℕ) → let told = Bytes.call left.control left.memory (Call.commit s ops) in told.answer ≡ refused 8
      → (later : List Call) (x : Call) (k found : ℕ) → asker x ≡ s
      → let r = after_calls told later in (Bytes.call r.control r.memory x).answer ≡ answered k found → left.control.commits ≤ k
  shown_after = Told.shown_after _ _ simulates_after sound

  -- NEVER BACK (02, S-7: "nobody walks back in time"). After H a read, forward or collect is answered with state k: after any further list, with moves of that session too, no read,
  -- forward or collect of the session is answered with an earlier state.
  pub never_back : (x : Call) (k found : ℕ) → let shown = Bytes.call left.control left.memory x in shown.answer ≡ answered k found
      → (later : List Call) (y : Call) (j more : ℕ) → asker y ≡ asker x
      → let r = after_calls shown later in (Bytes.call r.control r.memory y).answer ≡ answered j more → k ≤ j
  never_back = Forward.never_back _ _ simulates_after sound

  -- TITLES. After H a read, forward or collect by title is answered with state k and found 1: in L(k) one cart alone has the title, and that cart is shown.
  pub title_read_law : (x : Call) (k : ℕ) (title : List ℕ) → let shown = Bytes.call left.control left.memory x in
      shown.answer ≡ answered k 1 → asked plain.next x ≡ by_title title → ShowsTheOne title (L plain.next.log k) shown.output
  title_read_law = Titles.title_read_law _ _ simulates_after sound

  -- After H a commit with number n writes a title, the list goes on with `later`, and then a read, forward or collect is answered at state k. Each place that asks for the cart shows
  -- that title, unless one of the transactions n + 1 to k has an operation on the cart.
  module _ (s : ℕ) (ops op : List ℕ) (n : ℕ) (writes : Writes ops op) (later : List Call) (x : Call) (k found : ℕ) (cs : List ℕ) (i : ℕ) where
    abbrev committed : After
    committed = Bytes.call left.control left.memory (Call.commit s ops)

    abbrev shown : After
    shown = let r = after_calls committed later in Bytes.call r.control r.memory x

    -- the plain machine that answers
    abbrev machine : Machine
    machine = (Plain.after_calls (Plain.call plain.next (Call.commit s ops)) later).next

    pub title_shown : committed.answer ≡ done n → shown.answer ≡ answered k found → n ≤ k
        → ((j : ℕ) → n ≤ j → j < k → spares (u16 op 2) (get_or machine.log j []) ≡ true)
        → asked machine x ≡ by_numbers cs → i < length cs → get_or cs i 0 ≡ u16 op 2
        → title_in (part shown.output (80 * i) 80) ≡ title_in op
    title_shown accepted answer u v q g e = Titles.title_shown _ _ simulates_after sound s ops op n writes accepted later x k found answer u v cs i q g e

module _ (before : Memory) (studios : ℕ) (bytes : List ℕ) where
  -- SETUP. Lent memories of the right lengths, setup gives the plain machine's answer.
  pub setup_answer_law : lengths_form before ≡ true → (setup before studios bytes).answer ≡ (Plain.setup studios bytes).answer
  setup_answer_law = Setup.setup_answer_law before studios bytes

  module _ (accepted : (setup before studios bytes).answer ≡ done 0) where
    -- A fresh system stands for what setup leaves of the plain machine.
    pub setup_simulates : Simulates (setup before studios bytes) (Plain.setup studios bytes)
    setup_simulates = Setup.setup_simulates before studios bytes accepted

    plain_accepted : (Plain.setup studios bytes).answer ≡ done 0
    plain_accepted = sym setup_simulates.answer ∙ accepted

    setup_met : Met (Plain.setup studios bytes).next
    setup_met = setup_case (λ (q : Step). Met q.next) studios bytes plain_accepted (λ e h. fresh_met studios bytes)

    -- 02, S-2. After H from a fresh system no cart of the head end's copy or of a studio's has a title that begins or ends with a space: `spaced` asks that of a held cart, whose byte 0
    -- is 1, as of a new.
    pub no_spaced_title : (H : List Call) → let left = after_calls (setup before studios bytes) H in
        (i : ℕ) → i ≤ 4 → (c : ℕ) → 1 ≤ c → c ≤ 128 → spaced (cart_at (copy_at left.memory.library i) c) ≡ false
    no_spaced_title H =
        let last = simulates_after _ _ setup_simulates H in
        Titles.no_spaced_title _ _ last (represents_sound _ _ _ last.next) (after_unspaced H _ (setup_unspaced studios bytes plain_accepted))

    -- RESTART (02, S-8). What any list of calls leaves, from a fresh system, load accepts: so a restart is safe at any moment.
    pub reloads : (H : List Call) → let left = after_calls (setup before studios bytes) H in Loadable left.control left.memory
    reloads = OneCopyOrder.reloads_from _ _ setup_simulates setup_met

module _ (c : Control) (m : Memory) (loadable : Loadable c m) where
  -- A loaded system stands for a state of the plain machine, and for what load leaves of that.
  pub stands : Stands c m
  stands = load_accepts_only c m c.commits loadable.arrays loadable.accepted

  pub load_simulates : Simulates (Bytes.load c m) (Plain.load stands.state)
  load_simulates = Standing.load_same c m stands.state stands.represents

  load_met : Met (Plain.load stands.state).next
  load_met = rw (load_accepts stands.state stands.met) stands.met

  -- What any list leaves, from a loaded system, load accepts again.
  pub reloads_again : (H : List Call) → let left = after_calls (Bytes.load c m) H in Loadable left.control left.memory
  reloads_again = OneCopyOrder.reloads_from _ _ load_simulates load_met

-- DEMAND 3 over loaded memory (02, S-8). From every control and memory that load accepts every list of calls has a one-copy order, in which the log's transactions are the first commits.
pub demand3_loaded : Demand3Loaded
unfolding Bytes.call_by
demand3_loaded c m loadable H none =
    let (same, there) = load_unchanging c m in
    subst (λ (l : Library). (order : List Entry) × OneCopy l (entries_from (Bytes.load c m) none H) order) (ap₂ loaded_library same there)
    (OneCopyOrder.ordered_from _ _ (load_simulates c m loadable) (load_met c m loadable) H none)

-- DEMAND 3. Every list of calls from a fresh system has a one-copy order: load accepts a fresh system, and its log is empty.
pub demand3 : Demand3
unfolding Bytes.call_by Call.run Call.final
demand3 before studios bytes accepted H none =
    let r = setup before studios bytes in
    let (c, m) = load_unchanging r.control r.memory in
    rw (← OneCopyOrder.setup_entries before studios bytes accepted none H, ← OneCopyOrder.setup_library before studios bytes accepted, ← OneCopyOrder.same_entries (Bytes.load r.control r.memory) r c m none H)
    (demand3_loaded r.control r.memory (reloads before studios bytes accepted []) H none)

-- TABLE. The twelve cases hold of the calls on bytes, with their outputs, whatever three memories of the right lengths setup is lent: from the plain
-- machine's table, with no byte computed.
pub twelve : (before : Memory) → lengths_form before ≡ true →
    let r = setup before 2 studio_bytes in
    let end = after_calls r (calls_of cases2to10) in
    Table (history r) (logged end.control end.memory.log)
unfolding start plain_history
twelve before lengths =
    let accepted = setup_answer_law before 2 studio_bytes lengths ∙ started in
    let end = (simulates_after _ _ (setup_simulates before 2 studio_bytes accepted) (calls_of cases2to10)).next in
    let none : (after_calls (setup before 2 studio_bytes) (calls_of cases2to10)).control.retired ≡ 0 = sym end.retired ∙ none_retired in
    subst₂ Table (fun_ext (λ H. sym (answers _ _ (setup_simulates before 2 studio_bytes accepted) H))) (ap (λ (n : ℕ). drop n (Plain.after_calls start (calls_of cases2to10)).next.log) (sym none) ∙ kept_log _ _ _ end) table

-- 02, S-3. The story of the request on bytes, likewise: another studio fills cart 40, the commit is refused with 8, the session's read waits, and after send and
-- refresh its collect shows cart 40 held.
pub told_then_shown : (before : Memory) → lengths_form before ≡ true → history (setup before 2 studio_bytes) (calls_of taking) ≡ taking
unfolding start plain_history
told_then_shown before lengths = answers _ _ (setup_simulates before 2 studio_bytes (setup_answer_law before 2 studio_bytes lengths ∙ started)) (calls_of taking) ∙ Taken.told_then_shown

-- 02, S-4. The story of the request on bytes, likewise: forwards that the head end answers and forwards that the studio answers, reads and collects.
pub forwarded : (before : Memory) → lengths_form before ≡ true → history (setup before 2 studio_bytes) (calls_of hour) ≡ hour
unfolding start plain_history
forwarded before lengths = answers _ _ (setup_simulates before 2 studio_bytes (setup_answer_law before 2 studio_bytes lengths ∙ started)) (calls_of hour) ∙ Forwarded.forwarded

-- 02, S-7. The story of the request on bytes, likewise: sessions that were shown edit 1 at studio 1 move to studio 2, which is behind; the read waits there, and
-- the forward is answered by the head end.
pub moved : (before : Memory) → lengths_form before ≡ true → history (setup before 2 studio_bytes) (calls_of walk) ≡ walk
unfolding start plain_history
moved before lengths = answers _ _ (setup_simulates before 2 studio_bytes (setup_answer_law before 2 studio_bytes lengths ∙ started)) (calls_of walk) ∙ Walk.moved

-- 02, S-6. Messages written on bytes, likewise: of one operation and of two, refused for a number that is not committed and an output that is too short.
pub messages_written : (before : Memory) → lengths_form before ≡ true → history (setup before 2 studio_bytes) (calls_of writing) ≡ writing
unfolding start plain_history
messages_written before lengths = answers _ _ (setup_simulates before 2 studio_bytes (setup_answer_law before 2 studio_bytes lengths ∙ started)) (calls_of writing) ∙ Messages.messages_written

-- 02, S-8. The story of the request on bytes, likewise: a list from a fresh system; what it left is loaded; then a read below the loaded commits, a collect of the loaded request, a commit after them.
pub restarted : (before : Memory) → lengths_form before ≡ true → let r = setup before 2 studio_bytes in
    let left = after_calls r (calls_of morning) in
    let again = Bytes.load left.control left.memory in
    (history r (calls_of morning) ≡ morning) × ((again.answer ≡ done 2) × (history again (calls_of afternoon) ≡ afternoon))
unfolding start plain_history Restarted.again
restarted before lengths =
    let fresh = setup_simulates before 2 studio_bytes (setup_answer_law before 2 studio_bytes lengths ∙ started) in
    let again = Standing.load_same _ _ _ (simulates_after _ _ fresh (calls_of morning)).next in
    (answers _ _ fresh (calls_of morning) ∙ Restarted.before, (again.answer ∙ Restarted.whole, answers _ _ again (calls_of afternoon) ∙ Restarted.restarted))

-- 02, S-9. The story of the request on bytes, likewise: retires that are refused and accepted, numbers that the writer refuses, a restart, and what follows it.
pub retired_story : (before : Memory) → lengths_form before ≡ true → let r = setup before 2 studio_bytes in
    let left = after_calls r (calls_of week) in
    let again = Bytes.load left.control left.memory in
    (history r (calls_of week) ≡ week) × ((again.answer ≡ done 2) × (history again (calls_of weekend) ≡ weekend))
unfolding start plain_history Retired.again
retired_story before lengths =
    let fresh = setup_simulates before 2 studio_bytes (setup_answer_law before 2 studio_bytes lengths ∙ started) in
    let again = Standing.load_same _ _ _ (simulates_after _ _ fresh (calls_of week)).next in
    (answers _ _ fresh (calls_of week) ∙ Retired.retired, (again.answer ∙ Retired.whole, answers _ _ again (calls_of weekend) ∙ Retired.went_on))
