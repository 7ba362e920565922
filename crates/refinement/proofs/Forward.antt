-- 02, S-4, on bytes: where forward is read, what it leaves otherwise, and the reads of its session afterwards.
use mathlib.Core.Path.{◌≡◌, sym, ◌∙◌}
use mathlib.Core.List.{List}
use Prim.Native.Nat.{ℕ, suc, ◌≤◌, ◌<◌}
use native.Mathlib.Omega.{arith}
use lib.Dec.{leb}
use lib.ListN.{length}
use borrow.Author.Tests.{le-leb, lt-leb}
use Rattle.carts.specs.Bytes.{over}
use Rattle.carts.proofs.TestLaws.{by_cond}
use Rattle.replication.specs.Answer.{waits, answered}
use Rattle.replication.specs.Memory.{Memory, copy_at, session_at, sequence_of, with_number, nth, studio_of}
use Rattle.replication.specs.Request.{request_of, needed, found_in, shown_from}
use Rattle.replication.specs.Rows.{unless, read_stop}
use Rattle.replication.specs.Call.{Call}
use Rattle.replication.specs.Calls as Bytes
use Rattle.replication.specs.Calls.{After, after, with_sessions}
use Rattle.replication.specs.declared.control.Control.{Control}
use Rattle.replication.proofs.RowLaws.{unless_case}
use Rattle.replication.proofs.DecideLaws.{accepted}
use Rattle.replication.proofs.BlockLaws.{answered_waits}
use Rattle.replication.proofs.Accepted.{read_passed}
use Rattle.machine.specs.Machine.{Step}
use Rattle.machine.specs.Asked.{asker}
use Rattle.machine.proofs.Sound.{Sound}
use Rattle.machine.proofs.NeverBack as Machine
use Rattle.refinement.specs.Represents.{Simulates}
use Rattle.refinement.proofs.Sessions.{own_sequence, number_set}
use Rattle.refinement.proofs.Read.{waits_for}
use Rattle.refinement.proofs.Simulation.{simulates_then}

module _ (c : Control) (m : Memory) (s : ℕ) (request out : List ℕ) where
  -- the session's number, and what its studio has applied
  abbrev number : ℕ
  number = sequence_of (session_at m.sessions s)

  abbrev applied : ℕ
  applied = nth c.applied (studio_of c s)

  pub as_read : number ≤ applied → Bytes.forward c m s request out ≡ Bytes.read c m s request out
  unfolding Bytes.forward_by Bytes.read_by Bytes.block_by
  as_read u = rw (le-leb number applied u)

  pub stopped_as_read : (n : ℕ) → read_stop c m s request (length out) ≡ suc n → Bytes.forward c m s request out ≡ Bytes.read c m s request out
  unfolding Bytes.forward_by Bytes.read_by unless
  stopped_as_read n e = rw e

  -- what the head end's answer leaves
  abbrev by_primary : After
  by_primary =
      let copy = copy_at m.library 0 in
      let q = request_of request in
      after (answered c.commits (found_in copy q)) c (with_sessions m (with_number m.sessions s c.commits)) (over out 0 (needed q) (shown_from copy q))

  pub by_primary_law : applied < number → read_stop c m s request (length out) ≡ 0 → Bytes.forward c m s request out ≡ by_primary
  unfolding Bytes.forward_by Bytes.block_by Bytes.answer_from unless
  by_primary_law u e = rw (e, lt-leb number applied u)

  -- no wait is among its answers
  pub never_waits : (n : ℕ) → (Bytes.forward c m s request out).answer ≡ waits n → ⊥
  unfolding Bytes.forward_by Bytes.block_by Bytes.answer_from
  never_waits n = unless_case Waits _ _ _ (λ k e a. let z : ◌≡◌ {A = ℕ} 0 1 = cc in omega arith)
      (λ e. by_cond Waits (leb number applied) _ _ (λ _. answered_waits _ _ n) (λ _. answered_waits _ _ n))
    where
      Waits : After → Type 0
      Waits r = r.answer ≡ waits n → ⊥

  module _ (passes : read_stop c m s request (length out) ≡ 0) (behind : applied < number) where
    -- the session's number after it
    forwarded_number : sequence_of (session_at (Bytes.forward c m s request out).memory.sessions s) ≡ c.commits
    unfolding read_stop
    forwarded_number =
        let a = accepted c m _ passes in
        rw (by_primary_law behind passes) (number_set c m a.0 s (read_passed s _ _ request _ a.1).who c.commits)

    -- its studio has not applied so many
    still_behind : applied < c.commits
    unfolding read_stop
    still_behind =
        let a = accepted c m _ passes in
        let k = own_sequence c m.sessions a.0.sessions s (read_passed s _ _ request _ a.1).who in
        omega arith

    -- a read straight afterwards that no row stops
    pub forwarded_waits : (next lent : List ℕ) → let r = Bytes.forward c m s request out in
        read_stop r.control r.memory s next (length lent) ≡ 0 → (Bytes.read r.control r.memory s next lent).answer ≡ waits c.commits
    forwarded_waits next lent e = waits_for _ _ s next lent c.commits forwarded_number (rw (by_primary_law behind passes) still_behind) e

  -- an answer that shows a state: by which copy
  module _ (k found : ℕ) (shown : (Bytes.forward c m s request out).answer ≡ answered k found) where
    -- no row stops it
    not_stopped : read_stop c m s request (length out) ≡ 0
    unfolding Bytes.forward_by
    not_stopped = unless_case (λ (r : After). r.answer ≡ answered k found → read_stop c m s request (length out) ≡ 0) _ _ _
        (λ j e a. let z : ◌≡◌ {A = ℕ} 0 1 = cc in absurd (omega arith)) (λ e a. e) shown

    pub state_told : (number ≤ applied → k ≡ applied) × (applied < number → (k ≡ c.commits) × (applied < k))
    unfolding Bytes.forward_by Bytes.block_by Bytes.answer_from unless
    state_told = (
      λ u. let a : answered applied _ ≡ answered k found = rw (not_stopped, le-leb number applied u) at shown in cc,
      λ u. let a : answered c.commits _ ≡ answered k found = rw (not_stopped, lt-leb number applied u) at shown in
          let same : k ≡ c.commits = cc in
          (same, rw same (still_behind not_stopped u)),
    )

-- from what stands for a sound machine: two answered reads, forwards or collects of one session, and any list of calls between them
pub never_back : (r : After) (p : Step) → Simulates r p → Sound p.next → (x : Call) (k found : ℕ)
    → let t = Bytes.call r.control r.memory x in t.answer ≡ answered k found
    → (H : List Call) (y : Call) (j more : ℕ) → asker y ≡ asker x → let v = Bytes.after_calls t H in
    (Bytes.call v.control v.memory y).answer ≡ answered j more → k ≤ j
never_back r p h f x k found answer H y j more e later =
    let (one, last) = simulates_then r p h x H y in
    Machine.never_back p.next f x k found (sym one.answer ∙ answer) H y j more e (sym last.answer ∙ later)
