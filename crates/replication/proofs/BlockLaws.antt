-- Laws of the Block step: what it goes by, and its two ways.
use Prim.Native.Nat.{ℕ, ◌+◌, ◌<◌, ◌≤◌}
use mathlib.Core.Path.{◌≡◌, refl, sym, ap, ◌∙◌}
use mathlib.Core.Bool.{Bool, true, false, cond}
use mathlib.Core.List.{List}
use native.Mathlib.Omega.{arith}
use lib.Dec.{leb}
use borrow.Author.Tests.{le-leb, lt-leb}
use Rattle.carts.proofs.TestLaws.{cond_both}
use Rattle.replication.specs.Answer.{Answer, refused, done, waits, answered}
use Rattle.replication.specs.Memory.{Memory, copy_at, session_at, with_session, sequence_of, with_sequence, nth, studio_of}
use Rattle.replication.specs.Request.{Request}
use Rattle.replication.specs.Calls.{After, after, with_sessions, number_after, answer_from, block_by, block}
use Rattle.replication.specs.Values.{due_of, studio_source, primary_source, forward_source, answer_by}
use Rattle.replication.specs.declared.control.Control.{Control}
use Rattle.replication.specs.declared.block.Due.{Due}
use Rattle.replication.specs.declared.source.Source.{Source}
use Rattle.replication.proofs.OutputLaws.{Shown}

-- what an accepted call goes by, as the code reads it
pub due_is : (c : Control) (sessions own : List ℕ) (s number studio state : ℕ) → own ≡ session_at sessions s → number ≡ sequence_of own → studio ≡ studio_of c s → state ≡ nth c.applied studio
    → ◌≡◌ {A = Due} record { number = number; studio = studio; state = state } (due_of c sessions s)
due_is c sessions own s number studio state o n i a = rw (n, o, a, i)

pub due_known : (c : Control) (sessions : List ℕ) (s : ℕ) (due : Due) → due ≡ due_of c sessions s → studio_of c s ≤ 4 → nth c.applied (studio_of c s) < 65536
    → (due.studio ≤ 4) × (due.state < 65536)
due_known c sessions s due d i a = rw d (i, a)

-- what answers, as the code chooses it
pub source_copy : (d : Due) (v : Source) → v ≡ studio_source d → d.studio ≤ 4 → v.copy ≤ 4
source_copy d v e u = rw e u

module _ (c : Control) (d : Due) where
  pub primary_chosen : d.state < d.number → (state next : ℕ) → state ≡ c.commits → next ≡ c.commits
      → ◌≡◌ {A = Source} record { copy = 0; state = state; next = next } (forward_source c d)
  unfolding forward_source
  primary_chosen h state next e f = rw (e, f, lt-leb d.number d.state h)

  pub studio_chosen : d.number ≤ d.state → (v : Source) → v ≡ studio_source d → v ≡ forward_source c d
  unfolding forward_source
  studio_chosen h v e = rw (le-leb d.number d.state h) e

-- the number of a wait; an answer is none
wait_number : Answer → ℕ
wait_number (refused k) = 0
wait_number (done k) = 0
wait_number (waits k) = k + 1
wait_number (answered k l) = 0

pub answered_waits : (state found n : ℕ) → answered state found ≡ waits n → ⊥
unfolding wait_number
answered_waits state found n e = let z : 0 ≡ n + 1 = ap wait_number e in absurd (omega arith)

-- a wait that changes nothing
abbrev pub waits_in : Control → Memory → ℕ → List ℕ → After
waits_in c m s out = after (waits (sequence_of (session_at m.sessions s))) c m out

-- an answer as the code makes it: from a source, what is found and shown, and what the session is left with
module _ (v : Source) (q : Request) (c : Control) (m : Memory) (s : ℕ) (x out : List ℕ) where
  pub answers_by : (found : ℕ) (new : List ℕ) → Shown (copy_at m.library v.copy) q out found new → (sessions : List ℕ) → sessions ≡ with_session m.sessions s (with_sequence v.next x)
      → after (answered v.state found) c (with_sessions m sessions) new ≡ answer_by v q c m s x out
  unfolding answer_from
  answers_by found new g sessions o = rw (o, g.0, g.1)

  -- it is no wait
  pub source_answers : (a : Answer) (m' : Memory) (new : List ℕ) → after a c m' new ≡ answer_by v q c m s x out → (n : ℕ) → a ≡ waits n → ⊥
  unfolding answer_from
  source_answers a m' new e n w = answered_waits _ _ n (sym (ap (λ (r : After). r.answer) e) ∙ w)

-- the test of an accepted call: the session's number, and what its studio has applied
module _ (c : Control) (m : Memory) (s : ℕ) (due : Due) (d : due ≡ due_of c m.sessions s) (q : Request) (x out : List ℕ) where
  pub block_waits : due.state < due.number → after (waits due.number) c m out ≡ block c m s q x (waits_in c m s out) out
  unfolding block_by
  block_waits h = let k : nth c.applied (studio_of c s) < sequence_of (session_at m.sessions s) = rw d at h in rw (d, lt-leb _ _ k)

  pub block_answers : due.number ≤ due.state → (v : Source) → v ≡ studio_source due → (r : After) → r ≡ answer_by v q c m s x out
      → r ≡ block c m s q x (waits_in c m s out) out
  unfolding block_by
  block_answers h v k r e =
      let l : sequence_of (session_at m.sessions s) ≤ nth c.applied (studio_of c s) = rw d at h in
      rw (e, k, d, le-leb _ _ l)

  -- the block step by the source that a forward is answered from
  pub block_forward : (v : Source) → v ≡ forward_source c due → (r : After) → r ≡ answer_by v q c m s x out → r ≡ block c m s q x (answer_by (primary_source c) q c m s x out) out
  unfolding block_by forward_source
  block_forward v k r e = rw (e, k, d) (cond_both (λ (v : Source) (r : After). answer_by v q c m s x out ≡ r) (leb (sequence_of (session_at m.sessions s)) (nth c.applied (studio_of c s))) _ _ _ _ refl refl)

-- a step that was given one way to wait, and another
module _ (c : Control) (m : Memory) (s : ℕ) (q : Request) (x : List ℕ) (behind : After) (out : List ℕ) (sessions new : List ℕ) where
  abbrev Now : After
  Now = answer_from (nth c.applied (studio_of c s)) (copy_at m.library (studio_of c s)) q c m s (number_after (sequence_of (session_at m.sessions s)) (nth c.applied (studio_of c s))) x out

  no : {n : ℕ} → after (waits n) c (with_sessions m sessions) new ≡ Now → ⊥
  unfolding answer_from
  no f = answered_waits _ _ _ (sym (ap (λ (r : After). r.answer) f))

  pub step_answered : (a : Answer) → ((n : ℕ) → a ≡ waits n → ⊥) → after a c (with_sessions m sessions) new ≡ block c m s q x (waits_in c m s out) out
      → after a c (with_sessions m sessions) new ≡ block c m s q x behind out
  unfolding block_by
  step_answered a no-wait e = go (leb (sequence_of (session_at m.sessions s)) (nth c.applied (studio_of c s))) e
    where
      go : (b : Bool) → after a c (with_sessions m sessions) new ≡ cond b Now (waits_in c m s out) → after a c (with_sessions m sessions) new ≡ cond b Now behind
      go true f = f
      go false f = absurd (no-wait _ (ap (λ (r : After). r.answer) f))

  pub step_waits : (n : ℕ) → after (waits n) c (with_sessions m sessions) new ≡ block c m s q x (waits_in c m s out) out
      → (behind ≡ block c m s q x behind out) × ((n ≡ sequence_of (session_at m.sessions s)) × ((sessions ≡ m.sessions) × (new ≡ out)))
  unfolding block_by wait_number
  step_waits n e = go (leb (sequence_of (session_at m.sessions s)) (nth c.applied (studio_of c s))) e
    where
      go : (b : Bool) → after (waits n) c (with_sessions m sessions) new ≡ cond b Now (waits_in c m s out)
          → (behind ≡ cond b Now behind) × ((n ≡ sequence_of (session_at m.sessions s)) × ((sessions ≡ m.sessions) × (new ≡ out)))
      go true f = absurd (no f)
      go false f =
          let k : n + 1 ≡ sequence_of (session_at m.sessions s) + 1 = ap (λ (r : After). wait_number r.answer) f in
          (refl, (omega arith, (ap (λ (r : After). r.memory.sessions) f, ap (λ (r : After). r.output) f)))
