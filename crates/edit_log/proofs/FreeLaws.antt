-- The records of a transaction, made free one after the other while its chain is followed.
use Prim.Native.Nat.{ℕ, zero, suc, ◌+◌, ◌-◌, ◌*◌, ◌<◌, ◌≤◌}
use mathlib.Core.Path.{◌≡◌, refl, sym, ap, ◌∙◌}
use mathlib.Core.Logic.{◌≢◌}
use mathlib.Core.Bool.{Bool, true, false, cond}
use mathlib.Core.List.{List, [], ◌∷◌, ◌++◌}
use native.Mathlib.Omega.{arith}
use lib.ListN.{length, replicate}
use lib.Dec.{eqb}
use borrow.Author.Tests.{eq-eqb, ne_eqb, eqb-true, eqb-false}
use Rattle.carts.specs.Bytes.{zeros, part, over, u16_bytes, within, every}
use Rattle.carts.proofs.TestLaws.{and_left, and_right, within_low, within_high}
use Rattle.carts.proofs.ZeroLaws.{length_zeros}
use Rattle.edit_log.specs.Log.{record_at, with_record, next_operation, next_transaction, chain, records_of, front, free_records, back}
use Rattle.edit_log.specs.Writes.{write_all, extended, released}
use Rattle.edit_log.specs.Chains.{count, chains_form}
use Rattle.edit_log.specs.Values.{Ending, freed_of}
use Rattle.edit_log.specs.declared.free.Freed.{Freed}
use Rattle.edit_log.proofs.ChainLaws.{chain_cons, chain_zero}
use Rattle.edit_log.proofs.ListLaws.{count_more, front_chain, every_append}
use Rattle.edit_log.proofs.OnceLaws.{count_here, count_append, every_in}
use Rattle.edit_log.proofs.WriteLaws.{length_written, record_other}
use Rattle.edit_log.proofs.LinkLaws.{linked_to, length_linked}
use Rattle.edit_log.proofs.HoldLaws.{joined, Stand, transactions, holds_of, oldest_is, first_is, last_is}
use Rattle.edit_log.proofs.AppendLaws.{by_next, once_in, once_most}
use Rattle.edit_log.proofs.TakeLaws.{chain_kept}
use Rattle.edit_log.proofs.RetireLaws.{back_in, retire_kept}

-- a chain that ends before its bound is the same at a higher one
pub chain_more : (k : ℕ) (log : List ℕ) (r : ℕ) → length (chain k log r) < k → chain (suc k) log r ≡ chain k log r
chain_more zero log r l = let z : ⊥ = omega arith in absurd z
chain_more (suc k) log r l = go (eqb r 0) refl (chain_more k log (next_operation log r))
  where
    go : (b : Bool) → eqb r 0 ≡ b → (length (chain k log (next_operation log r)) < k → chain (suc k) log (next_operation log r) ≡ chain k log (next_operation log r)) → chain (suc (suc k)) log r ≡ chain (suc k) log r
    go true e rec = rw (eqb-true r 0 e, chain_zero (suc (suc k)) log, chain_zero (suc k) log)
    go false e rec =
        let n = eqb-false r 0 e in
        let c : chain (suc k) log r ≡ r ∷ chain k log (next_operation log r) = chain_cons k log r (omega arith) in
        let m : length (r ∷ chain k log (next_operation log r)) < suc k = rw c at l in
        chain_cons (suc k) log r (omega arith) ∙ ap (λ z. r ∷ z) (rec (omega arith)) ∙ sym c

pub front_records : (log : List ℕ) (r : ℕ) → front (records_of log r) ≡ r
unfolding records_of
front_records log r = front_chain 9 log r (omega arith)

abbrev pub make : ℕ → ℕ → Freed
make n last = record { count = n; last = last }

abbrev pub blanks : List ℕ → List (List ℕ)
blanks rs = replicate (length rs) (zeros 80)

pub none_left : (log : List ℕ) (r : ℕ) → r ≤ 0 → length (records_of log r) ≡ 0
unfolding records_of
none_left log r h = let e : r ≡ 0 = omega arith in rw (e, chain_zero 9 log)

pub free_end : (log : List ℕ) (r : ℕ) → r ≤ 0 → (write_all (records_of log r) (blanks (records_of log r)) log ≡ log) × ((d : ℕ) → back d (records_of log r) ≡ d)
unfolding records_of write_all back
free_end log r h = let e : r ≡ 0 = omega arith in rw (e, chain_zero 9 log) (refl, λ d. refl)

-- a record more
module _ (log : List ℕ) (r : ℕ) (h : 0 < r) (x : Ending log r) where
  abbrev later : List ℕ
  later = records_of log (next_operation log r)

  pub cons : records_of log r ≡ r ∷ later
  unfolding records_of
  cons =
      let c : chain 9 log r ≡ r ∷ chain 8 log (next_operation log r) = chain_cons 8 log r h in
      let m : length (r ∷ chain 8 log (next_operation log r)) ≤ 8 = rw c at (few_of x) in
      c ∙ ap (λ z. r ∷ z) (sym (chain_more 8 log (next_operation log r) (omega arith)))
    where
      few_of : Ending log r → length (chain 9 log r) ≤ 8
      few_of y = y.few

  pub ending_in : (1 ≤ r) × (r ≤ 512)
  unfolding every
  ending_in = (h, within_high 1 512 r (and_left (within 1 512 r) (every (within 1 512) later) (rw cons at x.inside)))

  later_none : count r later ≡ 0
  later_none = let c = count_here r later in let d : count r (r ∷ later) ≤ 1 = rw cons at (x.distinct r) in omega arith

  module _ (size : length log ≡ 40960) (next : ℕ) (a : next ≡ next_operation log r) (new : List ℕ) (w : new ≡ with_record log r (over (zeros 80) 12 2 (u16_bytes next))) where
    same : (q : ℕ) → 1 ≤ q → q ≢ r → record_at new q ≡ record_at log q
    same q l ne = ap (λ z. record_at z q) w ∙ record_other log size r ending_in.0 ending_in.1 (linked_to next (zeros 80)) (length_linked next (zeros 80) (length_zeros 80)) q l ne

    links : (q : ℕ) → 1 ≤ count q later → next_operation new q ≡ next_operation log q
    unfolding every
    links q l = by_next new log q (same q low apart)
      where
        low : 1 ≤ q
        low = within_low 1 512 q (every_in (within 1 512) later q (and_right (within 1 512 r) (every (within 1 512) later) (rw cons at x.inside)) l)

        apart : q ≢ r
        apart e = let n = later_none in let m : 1 ≤ count r later = rw e at l in omega arith

    pub later_same : records_of new next ≡ later
    unfolding records_of
    later_same = ap (chain 9 new) a ∙ chain_kept 9 log new (next_operation log r) (links_of_law links)
      where
        links_of_law : ((q : ℕ) → 1 ≤ count q (chain 9 log (next_operation log r)) → next_operation new q ≡ next_operation log q) → (q : ℕ) → 1 ≤ count q (chain 9 log (next_operation log r)) → next_operation new q ≡ next_operation log q
        links_of_law f = f

    pub size_next : length new ≡ 40960
    size_next = ap length w ∙ length_written log size r ending_in.0 ending_in.1 (linked_to next (zeros 80)) (length_linked next (zeros 80) (length_zeros 80))

    pub ending_next : Ending new next
    unfolding every
    ending_next = record {
      few = rw later_same (let m : length (r ∷ later) ≤ 8 = rw cons at x.few in omega arith);
      inside = rw later_same (and_right (within 1 512 r) (every (within 1 512) later) (rw cons at x.inside));
      distinct = λ q. rw later_same (let d : count q (r ∷ later) ≤ 1 = rw cons at (x.distinct q) in let m = count_more q r later in omega arith);
    }

    pub free_next : write_all (records_of log r) (blanks (records_of log r)) log ≡ write_all (records_of new next) (blanks (records_of new next)) new
    unfolding write_all
    free_next =
        ap (λ z. write_all z (blanks z) log) cons ∙ ap (λ z. write_all later (blanks later) (with_record log r (linked_to z (zeros 80)))) fronts
        ∙ ap (write_all later (blanks later)) (sym w) ∙ ap (λ z. write_all z (blanks z) new) (sym later_same)
      where
        fronts : front later ≡ next
        fronts = front_records log (next_operation log r) ∙ sym a

    pub back_next : (d : ℕ) → back d (records_of log r) ≡ back r (records_of new next)
    unfolding back
    back_next d = ap (back d) cons ∙ ap (back r) (sym later_same)

    pub one_fewer : length (records_of new next) + 1 ≡ length (records_of log r)
    one_fewer = let a = ap length cons in let b = ap length later_same in omega arith

    pub fewer_next : length (records_of new next) < length (records_of log r)
    fewer_next = let a = ap length cons in let b = ap length later_same in omega arith

-- what is handed back
pub freed_is : (log : List ℕ) (r n last : ℕ) → n ≡ length (records_of log r) → last ≡ back 0 (records_of log r) → make n last ≡ freed_of log r
freed_is log r n last e f = rw (e, f)

-- the whole log after a transaction has been retired: `cleared` is the log with its records free, `new` the log with the link to them too
module _ (log : List ℕ) (oldest last : ℕ) where
  pub retire_only : last ≡ 0 → (new : List ℕ) → new ≡ write_all (records_of log oldest) (blanks (records_of log oldest)) log → new ≡ released log oldest last
  unfolding released
  retire_only e new w = w ∙ rw (eq-eqb last 0 e)

  pub retire_joined : (last ≡ 0 → ⊥) → (cleared : List ℕ) → cleared ≡ write_all (records_of log oldest) (blanks (records_of log oldest)) log
      → (new : List ℕ) → new ≡ over cleared (80 * (last - 1)) 80 (over (part cleared (80 * (last - 1)) 80) 12 2 (u16_bytes oldest)) → new ≡ released log oldest last
  unfolding released extended with_record record_at
  retire_joined n cleared w new q = q ∙ rw (ne_eqb last 0 n, front_records log oldest, ← w)

-- in a log of the layout the oldest transaction can be retired
module _ (n : ℕ) (log : List ℕ) (used oldest first last : ℕ) (h : chains_form (suc n) log used oldest first last ≡ true) where
  pub oldest_ending : Ending log oldest
  unfolding transactions Stand joined
  oldest_ending =
      let x = holds_of (suc n) log used oldest first last h in
      let t = records_of log oldest in
      let rest = joined (transactions n log (next_transaction log oldest)) in
      let free = free_records log first in
      let w = within 1 512 in
      let a = and_left (every w (t ++ rest)) (every w free) (sym (every_append w (t ++ rest) free) ∙ x.once.inside) in
      record {
        few = x.stand.0.high;
        inside = and_left (every w t) (every w rest) (sym (every_append w t rest) ∙ a);
        distinct = λ q.
            let c = count_append q (t ++ rest) free in
            let d = count_append q t rest in
            let m = once_most ((t ++ rest) ++ free) x.once q in
            omega arith;
      }

-- a retired transaction, by what the code hands back: the two chains of the new log, with control's new values
pub retired_kept : (n : ℕ) (log : List ℕ) (used oldest first last : ℕ) → length log ≡ 40960 → chains_form (suc n) log used oldest first last ≡ true
    → (freed : Freed) → freed ≡ freed_of log oldest
    → chains_form n (released log oldest last) (used - freed.count) (next_transaction log oldest) (cond (eqb first 0) oldest first) freed.last ≡ true
retired_kept n log used oldest first last size h freed e = rw e (retire_kept n log used oldest first last size h)

-- control's three records are records of the log, or 0
module _ (n : ℕ) (log : List ℕ) (used oldest first last : ℕ) (h : chains_form n log used oldest first last ≡ true) where
  small : (rs : List ℕ) → ((q : ℕ) → 1 ≤ count q rs → q ≤ 512) → (front rs ≤ 512) × (back 0 rs ≤ 512)
  unfolding front back
  small [] f = (omega arith, omega arith)
  small (r ∷ rs) f = (f r (let c = count_here r rs in omega arith), f (back 0 (r ∷ rs)) (back_in 0 r rs))

  in_free : (q : ℕ) → 1 ≤ count q (free_records log first) → q ≤ 512
  in_free q l =
      let x = holds_of n log used oldest first last h in
      let c = count_append q (joined (transactions n log oldest)) (free_records log first) in
      (once_in (joined (transactions n log oldest) ++ free_records log first) x.once q (omega arith)).1

  in_own : (q : ℕ) → 1 ≤ count q (joined (transactions n log oldest)) → q ≤ 512
  in_own q l =
      let x = holds_of n log used oldest first last h in
      let c = count_append q (joined (transactions n log oldest)) (free_records log first) in
      (once_in (joined (transactions n log oldest) ++ free_records log first) x.once q (omega arith)).1

  pub first_small : first ≤ 512
  first_small = let s = small (free_records log first) in_free in let e = first_is n log used oldest first last h in rw e at s.0

  pub last_small : last ≤ 512
  last_small = let s = small (free_records log first) in_free in let e = last_is n log used oldest first last h in rw e at s.1

  pub oldest_small : oldest ≤ 512
  oldest_small = let s = small (joined (transactions n log oldest)) in_own in let e = oldest_is n log used oldest first last h in rw e at s.0

  pub can_retire : (n ≡ 0 → ⊥) → Ending log oldest
  can_retire z =
      let q : n ≡ suc (n - 1) = omega arith in
      oldest_ending (n - 1) log used oldest first last (ap (λ k. chains_form k log used oldest first last) (sym q) ∙ h)
