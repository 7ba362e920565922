-- The log after a call: as it was, or with one accepted transaction more; a retired one stays in it (02, S-9). So it grows by every list of calls, and the library
-- of each earlier count stays as it was.
use Prim.Native.Nat.{ℕ, ◌+◌, ◌≤◌}
use native.Mathlib.Omega.{arith}
use mathlib.Core.Path.{◌≡◌, refl, ◌∙◌}
use mathlib.Core.List.{List, [], ◌∷◌, ◌++◌}
use lib.ListN.{length}
use Rattle.carts.specs.Operation.{operations_of}
use Rattle.carts.specs.Transaction.{Transaction, L, records_used}
use Rattle.replication.specs.Call as Call
use Rattle.replication.proofs.RowLaws.{unless_case}
use Rattle.replication.proofs.Accepted.{CommitAccepted, commit_passed, RetireAccepted, retire_passed}
use Rattle.machine.specs.Machine.{Machine, Step, commits, kept, session_of, commit, preview, send, refresh, answer_from, wait, read, collect, forward, write, move, load, retire, call, after_calls}
use Rattle.machine.proofs.Sort.{length_snoc}
use Rattle.machine.proofs.Cases.{refused_case, block_case}
use Rattle.machine.proofs.Libraries.{L-before}

-- what holds of the count retired and the log before a call, with an accepted commit's transaction appended, and with one more retired where retire is accepted, holds of
-- them after the call
module _ (P : ℕ → List Transaction → Type 0) (m : Machine) (same : P m.retired m.log)
    (more : (s : ℕ) (bytes : List ℕ) → CommitAccepted s (session_of m s).studio (session_of m s).waiting (records_used (kept m)) (commits m) (L m.log (commits m)) bytes
    → P m.retired (m.log ++ (operations_of bytes ∷ [])))
    (fewer : RetireAccepted m.studios m.retired (commits m) m.applied → P (m.retired + 1) m.log) where
  abbrev Left : Step → Type 0
  Left r = P r.next.retired r.next.log

  pub log_case : (x : Call.Call) → Left (call m x)
  unfolding call commit preview send refresh read collect forward write move load retire answer_from wait
  log_case (Call.commit s bytes) = unless_case Left _ _ _ (λ k e. refused_case Left m s _ (λ u. same) (λ u. same)) (λ e. more s bytes (commit_passed _ _ _ _ _ _ _ e))
  log_case (Call.preview s bytes) = same
  log_case (Call.send i) = unless_case Left _ _ _ (λ k e. same) (λ e. same)
  log_case (Call.refresh i) = unless_case Left _ _ _ (λ k e. same) (λ e. same)
  log_case (Call.read s request out) = unless_case Left _ _ _ (λ k e. same) (λ e. block_case m s _ _ out Left (λ u. same) (λ u. same))
  log_case (Call.collect s out) = unless_case Left _ _ _ (λ k e. same) (λ e. block_case m s _ _ out Left (λ u. same) (λ u. same))
  log_case (Call.forward s request out) = unless_case Left _ _ _ (λ k e. same) (λ e. block_case m s _ _ out Left (λ u. same) (λ u. same))
  log_case (Call.write n out) = unless_case Left _ _ _ (λ k e. same) (λ e. same)
  log_case (Call.move s i) = unless_case Left _ _ _ (λ k e. same) (λ e. same)
  log_case Call.load = unless_case Left _ _ _ (λ k e. same) (λ e. same)
  log_case Call.retire = unless_case Left _ _ _ (λ k e. same) (λ e. fewer (retire_passed _ _ _ _ e))

-- a log that grows keeps the library of each count it had
pub record Grown (log next : List Transaction) : Type 0 where
  pub more : length log ≤ length next
  pub same : (k : ℕ) → k ≤ length log → L next k ≡ L log k

as_it_was : {log : List Transaction} → Grown log log
as_it_was = record { more = omega arith; same = λ k u. refl }

call_grows : (m : Machine) (x : Call.Call) → Grown m.log (call m x).next.log
call_grows m = log_case (λ n. Grown m.log) m as_it_was (λ s bytes a. record {
  more = rw (length_snoc m.log (operations_of bytes)) (omega arith);
  same = λ k u. L-before m.log (operations_of bytes) k u;
}) (λ a. as_it_was)

pub after_grows : (H : List Call.Call) (r : Step) → Grown r.next.log (after_calls r H).next.log
unfolding Call.run Call.final
after_grows [] r = as_it_was
after_grows (x ∷ H) r =
    let a = call_grows r.next x in
    let b = after_grows H (call r.next x) in
    record { more = omega arith; same = λ k u. b.same k (omega arith) ∙ a.same k u }
