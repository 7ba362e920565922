-- 02, S-3, on bytes: after a commit refused with 8 its session's number is commits, so its reads wait for them, and no later read of the session is answered
-- from a state before.
use mathlib.Core.Path.{◌≡◌, sym, ◌∙◌}
use mathlib.Core.List.{List}
use Prim.Native.Nat.{ℕ, suc, ◌≤◌, ◌<◌}
use native.Mathlib.Omega.{arith}
use lib.ListN.{length}
use Rattle.replication.specs.Answer.{refused, waits, answered}
use Rattle.replication.specs.Memory.{Memory, session_at, sequence_of, nth, studio_of}
use Rattle.replication.specs.Rows.{commit_stop, read_stop}
use Rattle.replication.specs.Call as Call
use Rattle.replication.specs.Call.{Call}
use Rattle.replication.specs.Calls as Bytes
use Rattle.replication.specs.Calls.{After}
use Rattle.replication.specs.declared.control.Control.{Control}
use Rattle.replication.proofs.RowLaws.{unless_case}
use Rattle.replication.proofs.CommitLaws.{stopped_by_8}
use Rattle.machine.specs.Machine.{Step}
use Rattle.machine.specs.Asked.{asker}
use Rattle.machine.proofs.Sound.{Sound}
use Rattle.machine.proofs.Told as Machine
use Rattle.refinement.specs.Represents.{Simulates}
use Rattle.refinement.proofs.Represented.{log_length}
use Rattle.refinement.proofs.Sessions.{number_set}
use Rattle.refinement.proofs.Read.{waits_for}
use Rattle.refinement.proofs.Refused.{told_leaves}
use Rattle.refinement.proofs.Simulation.{simulates_then}

module _ (c : Control) (m : Memory) (s : ℕ) (bytes : List ℕ) (told : (Bytes.commit c m s bytes).answer ≡ refused 8) where
  -- row 8 stops it
  row_8 : commit_stop c m s bytes ≡ 8
  unfolding Bytes.commit Bytes.refused_commit
  row_8 = unless_case (λ (r : After). r.answer ≡ refused 8 → commit_stop c m s bytes ≡ 8) (commit_stop c m s bytes) _ _
      (λ k e a. let eight : suc k ≡ 8 = cc in e ∙ eight) (λ e a. let z : ◌≡◌ {A = ℕ} 0 1 = cc in absurd (omega arith)) told

  -- the session's number after it
  pub told_number : sequence_of (session_at (Bytes.commit c m s bytes).memory.sessions s) ≡ c.commits
  told_number =
      let (f, p) = stopped_by_8 c m s bytes row_8 in
      rw (told_leaves c m s bytes told) (number_set c m f s p.who c.commits)

  -- a read straight afterwards that no row stops, where the studio has not applied so many
  pub told_waits : (request out : List ℕ) → nth c.applied (studio_of c s) < c.commits → let m' = (Bytes.commit c m s bytes).memory in
      read_stop c m' s request (length out) ≡ 0 → (Bytes.read c m' s request out).answer ≡ waits c.commits
  told_waits request out u e = waits_for c _ s request out c.commits told_number u e

-- from what stands for a sound machine: a read, forward or collect of that session, after any list of calls
pub shown_after : (r : After) (p : Step) → Simulates r p → Sound p.next → (s : ℕ) (bytes : List ℕ)
    → let t = Bytes.call r.control r.memory (Call.commit s bytes) in t.answer ≡ refused 8
    → (H : List Call) (x : Call) (k found : ℕ) → asker x ≡ s → let v = Bytes.after_calls t H in
    (Bytes.call v.control v.memory x).answer ≡ answered k found → r.control.commits ≤ k
shown_after r p h f s bytes told H x k found e answer =
    let (one, last) = simulates_then r p h (Call.commit s bytes) H x in
    rw (← log_length _ _ _ h.next) (Machine.shown_after p.next f s bytes (sym one.answer ∙ told) H x k found e (sym last.answer ∙ answer))
