-- Every call, whatever its arguments, keeps the machine sound, and so does every list.
use Prim.Native.Nat.{ℕ, ◌-◌, ◌≤◌, max}
use native.Mathlib.Omega.{arith}
use mathlib.Core.Path.{◌≡◌, refl}
use mathlib.Core.List.{List, [], ◌∷◌}
use lib.ListN.{length}
use Rattle.carts.specs.Operation.{operations_of}
use Rattle.carts.specs.Transaction.{L, records_used}
use Rattle.carts.proofs.OperationLaws.{operations_of_law}
use Rattle.replication.specs.Memory.{nth}
use Rattle.replication.specs.Request.{Request, request_of}
use Rattle.replication.specs.Call as Call
use Rattle.replication.specs.Calls.{number_after}
use Rattle.replication.proofs.RowLaws.{unless_case}
use Rattle.replication.proofs.ShownLaws.{Askable, request_askable}
use Rattle.replication.proofs.Accepted.{commit_passed, send_passed, refresh_passed, read_passed, move_passed, retire_passed}
use Rattle.machine.specs.Machine.{Machine, Step, commits, kept, session_of, commit, preview, send, refresh, answer_from, block, wait, reading, read, collect, forward, write, move, load, retire, call, after_calls}
use Rattle.machine.proofs.Sort.{length_snoc}
use Rattle.machine.proofs.Cases.{refused_case, state_for, block_case}
use Rattle.machine.proofs.Sound.{Sound, applied_commits, with_session_law, with_transaction, with_sent_law, with_applied_law, with_retired_law}

-- an answered read leaves the greater of the old number and the state that it showed
pub number_after_law : (n k : ℕ) → number_after n k ≡ max n k
unfolding number_after
number_after_law n k = refl

module _ (m : Machine) (f : Sound m) where
  abbrev Keeps : Step → Type 0
  Keeps r = Sound r.next

  keeps_commit : (s : ℕ) (bytes : List ℕ) → Keeps (commit m s bytes)
  unfolding commit
  keeps_commit s bytes = unless_case Keeps _ _ _ (λ k e. refused_case Keeps m s _ (λ u. with_session_law m f s _ (omega (arith, f.number_le (s - 1), applied_commits m f ((session_of m s).studio - 1))) (f.placed (s - 1)) (f.askable (s - 1))) (λ u. f)) (λ e.
      let a = commit_passed s (session_of m s).studio (session_of m s).waiting (records_used (kept m)) (commits m) (L m.log (commits m)) bytes e in
      with_session_law _ (with_transaction m f (operations_of bytes) (operations_of_law bytes a.form)) s _
      (rw (length_snoc m.log (operations_of bytes)) (omega (arith, f.number_le (s - 1))))
      (f.placed (s - 1)) (f.askable (s - 1)))

  keeps_preview : (s : ℕ) (bytes : List ℕ) → Keeps (preview m s bytes)
  unfolding preview
  keeps_preview s bytes = f

  keeps_send : (i : ℕ) → Keeps (send m i)
  unfolding send
  keeps_send i = unless_case Keeps _ _ _ (λ k e. f) (λ e.
      let a = send_passed m.studios i (nth m.sent i) (nth m.applied i) (commits m) e in
      with_sent_law m f i _ (omega (arith, f.applied_le (i - 1))) (omega (arith, f.sent_le (i - 1), a.unsent)))

  keeps_refresh : (i : ℕ) → Keeps (refresh m i)
  unfolding refresh
  keeps_refresh i = unless_case Keeps _ _ _ (λ k e. f) (λ e.
      let a = refresh_passed m.studios i (nth m.sent i) (nth m.applied i) e in
      with_applied_law m f i _ (omega arith) (omega (arith, f.applied_le (i - 1), a.behind)))

  -- an answered read that leaves no number above commits, one that waits, and the choice between them
  keeps_answer : (state n : ℕ) (q : Request) (s : ℕ) (out : List ℕ) → n ≤ commits m → Keeps (answer_from state n q m s out)
  unfolding answer_from
  keeps_answer state n q s out u = with_session_law m f s _ u (f.placed (s - 1)) tt

  keeps_wait : (q : Request) (s : ℕ) (out : List ℕ) → Askable q → Keeps (wait m s q out)
  unfolding wait
  keeps_wait q s out a = with_session_law m f s _ (f.number_le (s - 1)) (f.placed (s - 1)) a

  keeps_block : (s : ℕ) (q : Request) (behind : Step) (out : List ℕ) → Keeps behind → Keeps (block m s q behind out)
  keeps_block s q behind out h = block_case m s q behind out Keeps (λ u. keeps_answer _ _ q s out
      (omega (arith, number_after_law (session_of m s).number (state_for m s), f.number_le (s - 1), applied_commits m f ((session_of m s).studio - 1)))) (λ u. h)

  keeps_reading : (s : ℕ) (request : List ℕ) (behind : Step) (out : List ℕ) → (Askable (request_of request) → Keeps behind) → Keeps (reading m s request behind out)
  keeps_reading s request behind out h = unless_case Keeps _ _ _ (λ k e. f) (λ e.
      let a = read_passed s (session_of m s).studio (session_of m s).waiting request (length out) e in
      keeps_block s _ _ out (h (request_askable request a.form)))

  keeps_read : (s : ℕ) (request out : List ℕ) → Keeps (read m s request out)
  unfolding read
  keeps_read s request out = keeps_reading s request _ out (keeps_wait _ s out)

  keeps_forward : (s : ℕ) (request out : List ℕ) → Keeps (forward m s request out)
  unfolding forward
  keeps_forward s request out = keeps_reading s request _ out (λ a. keeps_answer _ _ _ s out (omega (arith, f.number_le (s - 1))))

  keeps_collect : (s : ℕ) (out : List ℕ) → Keeps (collect m s out)
  unfolding collect
  keeps_collect s out = unless_case Keeps _ _ _ (λ k e. f) (λ e. keeps_block s _ _ out (keeps_wait _ s out (f.askable _)))

  keeps_write : (n : ℕ) (out : List ℕ) → Keeps (write m n out)
  unfolding write
  keeps_write n out = unless_case Keeps _ _ _ (λ k e. f) (λ e. f)

  keeps_move : (s i : ℕ) → Keeps (move m s i)
  unfolding move
  keeps_move s i = unless_case Keeps _ _ _ (λ k e. f) (λ e.
      let a = move_passed s (session_of m s).studio (session_of m s).waiting m.studios i e in
      with_session_law m f s _ (f.number_le (s - 1)) a.there.high (f.askable (s - 1)))

  keeps_load : Keeps (load m)
  unfolding load
  keeps_load = unless_case Keeps _ _ _ (λ k e. f) (λ e. f)

  -- no studio still needs what is retired
  keeps_retire : Keeps (retire m)
  unfolding retire
  keeps_retire = unless_case Keeps _ _ _ (λ k e. f) (λ e.
      let a = retire_passed _ _ _ _ e in
      with_retired_law m f _ (λ i l g. omega (arith, a.unneeded i l g)) (omega (arith, a.some)))

  pub keeps : (x : Call.Call) → Sound (call m x).next
  unfolding call
  keeps (Call.commit s bytes) = keeps_commit s bytes
  keeps (Call.preview s bytes) = keeps_preview s bytes
  keeps (Call.send i) = keeps_send i
  keeps (Call.refresh i) = keeps_refresh i
  keeps (Call.read s request out) = keeps_read s request out
  keeps (Call.collect s out) = keeps_collect s out
  keeps (Call.forward s request out) = keeps_forward s request out
  keeps (Call.write n out) = keeps_write n out
  keeps (Call.move s i) = keeps_move s i
  keeps Call.load = keeps_load
  keeps Call.retire = keeps_retire

-- what every call keeps, every list keeps
pub after_keeps : (P : Machine → Type 0) → ((m : Machine) → P m → (x : Call.Call) → P (call m x).next) → (H : List Call.Call) (r : Step) → P r.next → P (after_calls r H).next
unfolding Call.run Call.final
after_keeps P kept [] r h = h
after_keeps P kept (x ∷ H) r h = after_keeps P kept H (call r.next x) (kept r.next h x)

pub after_sound : (H : List Call.Call) (r : Step) → Sound r.next → Sound (after_calls r H).next
after_sound = after_keeps Sound keeps
