-- 02, S-3: a session whose commit was refused with 8 is shown no state from before the refusal.
use Prim.Native.Nat.{ℕ, ◌-◌, ◌≤◌}
use native.Mathlib.Omega.{arith}
use mathlib.Core.Path.{◌≡◌, ◌∙◌}
use mathlib.Core.List.{List}
use lib.Seq.{get_or-set_same}
use Rattle.replication.specs.Answer.{refused, answered}
use Rattle.replication.specs.Call as Call
use Rattle.replication.proofs.RowLaws.{unless_case}
use Rattle.replication.proofs.DecideLaws.{KnownSession}
use Rattle.replication.proofs.Accepted.{commit_told}
use Rattle.machine.specs.Machine.{Machine, Step, commits, session_of, told, commit, call, after_calls}
use Rattle.machine.specs.Asked.{asker}
use Rattle.machine.proofs.Cases.{refused_case}
use Rattle.machine.proofs.Sound.{Sound}
use Rattle.machine.proofs.Kept.{keeps}
use Rattle.machine.proofs.NeverBack.{Reached, later_shown}

-- a commit refused with 8 leaves its session's number at commits
told_reached : (m : Machine) → Sound m → (s : ℕ) (bytes : List ℕ) → (commit m s bytes).answer ≡ refused 8 → Reached s (commits m) (commit m s bytes).next
unfolding commit
told_reached m f s bytes = unless_case Tells _ _ _ (λ k e. refused_case Tells m s _ (λ u _. raised (commit_told _ _ _ _ _ _ _ (e ∙ u)).who) (λ u a. absurd (u cc)))
    (λ e a. let z : ◌≡◌ {A = ℕ} 0 1 = cc in absurd (omega arith))
  where
    Tells : Step → Type 0
    Tells r = r.answer ≡ refused 8 → Reached s (commits m) r.next

    raised : KnownSession s (session_of m s).studio → Reached s (commits m) (told m s)
    raised w = let z = f.sixteen in rw (get_or-set_same m.sessions (s - 1) _ _ (omega (arith, w.low, w.high))) (omega arith)

-- a later read, forward or collect of that session, after any list of calls, is answered from a state that has them all
pub shown_after : (m : Machine) → Sound m → (s : ℕ) (bytes : List ℕ) → (call m (Call.commit s bytes)).answer ≡ refused 8
    → (H : List Call.Call) (x : Call.Call) (k found : ℕ) → asker x ≡ s → (call (after_calls (call m (Call.commit s bytes)) H).next x).answer ≡ answered k found
    → commits m ≤ k
unfolding call
shown_after m f s bytes told = later_shown (call m (Call.commit s bytes)) (keeps m f (Call.commit s bytes)) s (commits m) (told_reached m f s bytes told)
