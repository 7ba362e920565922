-- A log keeps its length when a commit and a retire write to it.
use Prim.Native.Nat.{ℕ, suc, ◌+◌, ◌≤◌}
use mathlib.Core.Path.{◌≡◌, refl, sym}
use mathlib.Core.Bool.{Bool, true, false, cond}
use mathlib.Core.List.{List}
use native.Mathlib.Omega.{arith}
use lib.ListN.{length, replicate, length-replicate}
use lib.Dec.{eqb}
use borrow.Author.Tests.{eqb-false}
use Rattle.carts.specs.Bytes.{zeros}
use Rattle.edit_log.specs.Log.{record_at, chain, records_of}
use Rattle.edit_log.specs.Chains.{chains_form}
use Rattle.edit_log.specs.Writes.{write_all, extended, appended, released}
use Rattle.edit_log.specs.Values.{Takeable, Ending}
use Rattle.edit_log.proofs.LinkLaws.{linked_to, length_linked}
use Rattle.edit_log.proofs.WriteLaws.{Givens, given_sizes, wrote, length_record, length_written, joined_size}
use Rattle.edit_log.proofs.RetireLaws.{blank_sizes}
use Rattle.edit_log.proofs.CommitLaws.{free_takeable, log_walkable, before_last}
use Rattle.edit_log.proofs.FreeLaws.{oldest_ending, last_small}

-- the log, or with one link more
either : (b : Bool) (x y : List ℕ) → length x ≡ 40960 → (b ≡ false → length y ≡ 40960) → length (cond b x y) ≡ 40960
either true x y h g = h
either false x y h g = g refl

module _ (n : ℕ) (log : List ℕ) (used oldest first last : ℕ) (size : length log ≡ 40960) (h : chains_form n log used oldest first last ≡ true) where
  pub length_appended : (ops : List (List ℕ)) → Givens ops → used + length ops ≤ 512 → length (appended n log oldest first ops) ≡ 40960
  unfolding appended
  length_appended ops g room = either (eqb n 0) _ _ written (λ e. let k = (before_last n log oldest (eqb-false n 0 e) (log_walkable n log used oldest first last h)).1 in joined_size _ written _ k.0 k.1 _)
    where
      free : Takeable (length ops) log first
      free = free_takeable n log used oldest first last h (length ops) room

      written : length (write_all (chain (length ops) log first) ops log) ≡ 40960
      written = (wrote (chain (length ops) log first) ops log size free.many free.inside free.distinct (given_sizes ops g)).size

extended_size : (x : List ℕ) → length x ≡ 40960 → (r : ℕ) → 1 ≤ r → r ≤ 512 → (next : ℕ) → length (extended x r next) ≡ 40960
unfolding extended
extended_size x s r low high next = length_written x s r low high (linked_to next (record_at x r)) (length_linked next (record_at x r) (length_record x s r low high))

pub length_released : (n : ℕ) (log : List ℕ) (used oldest first last : ℕ) → length log ≡ 40960 → chains_form (suc n) log used oldest first last ≡ true → length (released log oldest last) ≡ 40960
unfolding released
length_released n log used oldest first last size h = either (eqb last 0) _ _ freed (λ e. let z = eqb-false last 0 e in extended_size _ freed last (omega arith) (last_small (suc n) log used oldest first last h) _)
  where
    own : Ending log oldest
    own = oldest_ending n log used oldest first last h

    freed : length (write_all (records_of log oldest) (replicate (length (records_of log oldest)) (zeros 80)) log) ≡ 40960
    freed = (wrote (records_of log oldest) (replicate (length (records_of log oldest)) (zeros 80)) log size (sym (length-replicate {A = List ℕ} (length (records_of log oldest)) (zeros 80))) own.inside own.distinct (blank_sizes (length (records_of log oldest)))).size
