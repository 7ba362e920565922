-- Nobody goes back in time: no call lowers a session's number, a move neither, so no answered read shows a session a state from before.
use Prim.Native.Nat.{ℕ, ◌-◌, ◌≤◌}
use native.Mathlib.Omega.{arith}
use mathlib.Core.Path.{◌≡◌, ap}
use mathlib.Core.List.{List}
use lib.ListN.{get_or}
use Rattle.replication.specs.Answer.{answered}
use Rattle.replication.specs.Request.{Request, nothing}
use Rattle.replication.specs.Call as Call
use Rattle.replication.proofs.RowLaws.{unless_case}
use Rattle.machine.specs.Machine.{Machine, Session, session, Step, session_of, with_session, commit, preview, send, refresh, answer_from, block, wait, read, collect, forward, write, move, load, retire, call, after_calls}
use Rattle.machine.specs.Asked.{asker}
use Rattle.machine.proofs.Updates.{set_either}
use Rattle.machine.proofs.Cases.{refused_case, state_for, block_case}
use Rattle.machine.proofs.Sound.{Sound}
use Rattle.machine.proofs.Kept.{number_after_law, keeps, after_keeps}
use Rattle.machine.proofs.Shown.{call_shows}

-- the number of session s is v, or more: what it has been shown, told or has committed
abbrev pub Reached : ℕ → ℕ → Machine → Type 0
Reached s v m = v ≤ (session_of m s).number

-- every call leaves it so
module _ (m : Machine) (f : Sound m) (s v : ℕ) (h : Reached s v m) where
  abbrev Still : Step → Type 0
  Still r = Reached s v r.next

  -- session t is at studio i and has a number that is not below the one that it had
  renumbered : (t i n : ℕ) (q : Request) → (session_of m t).number ≤ n → Reached s v (with_session m t (session i n q))
  renumbered t i n q u = set_either (λ (y : Session). v ≤ y.number) m.sessions (t - 1) _ _ (s - 1)
      (λ e. omega (arith, ap (λ (k : ℕ). (get_or m.sessions k (session 0 0 nothing)).number) e)) h

  commit_reaches : (t : ℕ) (bytes : List ℕ) → Still (commit m t bytes)
  unfolding commit
  commit_reaches t bytes = unless_case Still _ _ _ (λ k e. refused_case Still m t _ (λ u. renumbered t _ _ _ (omega (arith, f.number_le (t - 1)))) (λ u. h))
      (λ e. renumbered t _ _ _ (omega (arith, f.number_le (t - 1))))

  block_reaches : (t : ℕ) (q : Request) (behind : Step) (out : List ℕ) → Still behind → Still (block m t q behind out)
  unfolding answer_from
  block_reaches t q behind out later = block_case m t _ _ out Still (λ u. renumbered t _ _ _ (omega (arith, number_after_law (session_of m t).number (state_for m t)))) (λ u. later)

  wait_reaches : (t : ℕ) (q : Request) (out : List ℕ) → Still (wait m t q out)
  unfolding wait
  wait_reaches t q out = renumbered t _ _ _ (omega arith)

  call_reaches : (x : Call.Call) → Still (call m x)
  unfolding call preview send refresh read collect forward write move load retire answer_from
  call_reaches (Call.commit t bytes) = commit_reaches t bytes
  call_reaches (Call.preview t bytes) = h
  call_reaches (Call.send i) = unless_case Still _ _ _ (λ k e. h) (λ e. h)
  call_reaches (Call.refresh i) = unless_case Still _ _ _ (λ k e. h) (λ e. h)
  call_reaches (Call.read t request out) = unless_case Still _ _ _ (λ k e. h) (λ e. block_reaches t _ _ out (wait_reaches t _ out))
  call_reaches (Call.collect t out) = unless_case Still _ _ _ (λ k e. h) (λ e. block_reaches t _ _ out (wait_reaches t _ out))
  call_reaches (Call.forward t request out) = unless_case Still _ _ _ (λ k e. h) (λ e. block_reaches t _ _ out (renumbered t _ _ _ (omega (arith, f.number_le (t - 1)))))
  call_reaches (Call.write n out) = unless_case Still _ _ _ (λ k e. h) (λ e. h)
  call_reaches (Call.move t i) = unless_case Still _ _ _ (λ k e. h) (λ e. renumbered t i _ _ (omega arith))
  call_reaches Call.load = unless_case Still _ _ _ (λ k e. h) (λ e. h)
  call_reaches Call.retire = unless_case Still _ _ _ (λ k e. h) (λ e. h)

-- a read, forward or collect of that session, after any list of calls, is answered from no earlier state
pub later_shown : (r : Step) → Sound r.next → (s v : ℕ) → Reached s v r.next → (H : List Call.Call) (x : Call.Call) (k found : ℕ) → asker x ≡ s
    → (call (after_calls r H).next x).answer ≡ answered k found → v ≤ k
later_shown r f s v h H x k found e answer =
    let (sound, reached) = after_keeps (λ m. Sound m × Reached s v m) (λ m p x. (keeps m p.0 x, call_reaches m p.0 s v p.1 x)) H r (f, h) in
    let shown = call_shows (after_calls r H).next sound k found x answer in
    omega (arith, reached, rw e at shown.reached)

-- and what an answered one showed is such a state
pub never_back : (m : Machine) → Sound m → (x : Call.Call) (k found : ℕ) → (call m x).answer ≡ answered k found
    → (H : List Call.Call) (y : Call.Call) (j more : ℕ) → asker y ≡ asker x → (call (after_calls (call m x) H).next y).answer ≡ answered j more → k ≤ j
never_back m f x k found answer = later_shown (call m x) (keeps m f x) (asker x) k (call_shows m f k found x answer).left
