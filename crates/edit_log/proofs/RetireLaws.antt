-- A retired transaction: its records join the end of the free chain, and every record is still in exactly one chain.
use Prim.Native.Nat.{ℕ, zero, suc, ◌+◌, ◌-◌, ◌≤◌}
use mathlib.Core.Path.{◌≡◌, refl, sym, ap, ◌∙◌}
use mathlib.Core.Logic.{◌≢◌}
use mathlib.Core.Bool.{true, cond, ◌&&◌}
use mathlib.Core.List.{List, [], ◌∷◌, ◌++◌, map}
use native.Mathlib.Omega.{arith}
use native.Mathlib.Decide.{ℕ_discrete}
use lib.ListN.{length, replicate, length-append, length-replicate}
use lib.Dec.{eqb}
use borrow.Author.Tests.{eq-eqb, ne_eqb}
use Rattle.carts.specs.Bytes.{zeros, within, every}
use Rattle.carts.specs.Operation.{operation_fields}
use Rattle.carts.proofs.TestLaws.{and_left, and_right}
use Rattle.carts.proofs.ZeroLaws.{length_zeros}
use Rattle.edit_log.specs.Log.{record_at, next_operation, next_transaction, records_of, front, handed_in, transactions_from, log_records, free_records, back}
use Rattle.edit_log.specs.Writes.{write_all, extended, released}
use Rattle.edit_log.specs.Chains.{free_form, count, chains_form}
use Rattle.edit_log.proofs.BoolLaws.{and_of}
use Rattle.edit_log.proofs.LinkLaws.{linked_to, length_linked, linked_next, linked_free, zero_free}
use Rattle.edit_log.proofs.ListLaws.{Linked, linked_kept, front_chain, every_kept, every_append, count_more, back_append, back_some}
use Rattle.edit_log.proofs.OnceLaws.{count_nil, count_append, count_here}
use Rattle.edit_log.proofs.WriteLaws.{Sizes, Distinct, Written, Wrote, wrote, written_linked, length_record, record_same, record_other}
use Rattle.edit_log.proofs.HoldLaws.{joined, Standing, Stand, Holds, transactions, length_transactions, joined_transactions, holds_of, used_is, first_is, last_is, log_lists, free_lists, of_holds, texts, shown_transactions, shown_kept, shown_lists}
use Rattle.edit_log.proofs.AppendLaws.{Grown, once_in, once_most, drop_count, front_count, standing_kept, by_next, by_link}

-- transactions in a log that has the same records there
pub stand_kept : (ts : List (List ℕ)) (log log' : List ℕ) → ((q : ℕ) → 1 ≤ count q (joined ts) → record_at log' q ≡ record_at log q) → Stand log ts → Stand log' ts
unfolding Stand joined
stand_kept [] log log' f s = tt
stand_kept (t ∷ ts) log log' f s = (
  standing_kept log log' t (front (joined ts)) (front (joined ts)) (λ q l. (by_next log' log q (f q (up q l)), ap operation_fields (f q (up q l))))
      (λ q l. by_link log' log q (f q (up q (omega (arith, drop_count q t))))) (by_link log' log (front t) (f (front t) (up (front t) (let c = front_count t s.0.low in omega arith))) ∙ s.0.follows) s.0,
  stand_kept ts log log' (λ q l. f q (let c = count_append q t (joined ts) in omega arith)) s.1,
)
  where
    up : (q : ℕ) → 1 ≤ count q t → 1 ≤ count q (t ++ joined ts)
    up q l = let c = count_append q t (joined ts) in omega arith

-- the last record of a list is one of them
pub back_in : (d x : ℕ) (xs : List ℕ) → 1 ≤ count (back d (x ∷ xs)) (x ∷ xs)
unfolding back
back_in d x [] = let c = count_here x [] in omega arith
back_in d x (y ∷ ys) = let i = back_in x y ys in let m = count_more (back x (y ∷ ys)) x (y ∷ ys) in omega arith

-- two lists joined: the last record of the first leads to the second
pub linked_join : (xs ys log log' : List ℕ) → Distinct xs → ((q : ℕ) → 1 ≤ count q xs → q ≢ back 0 xs → next_operation log' q ≡ next_operation log q)
    → (1 ≤ length xs → next_operation log' (back 0 xs) ≡ front ys) → Linked log xs → Linked log' ys → Linked log' (xs ++ ys)
unfolding Linked front back
linked_join [] ys log log' d f e g h = h
linked_join (x ∷ []) ys log log' d f e g h = (e (omega arith), h)
linked_join (x ∷ (y ∷ xs)) ys log log' d f e g h = (
  f x (let c = count_here x (y ∷ xs) in omega arith) apart ∙ g.0,
  linked_join (y ∷ xs) ys log log' (λ q. let m = count_more q x (y ∷ xs) in let b = d q in omega arith) (λ q l n. f q (let m = count_more q x (y ∷ xs) in omega arith) n) (λ l. e (omega arith)) g.1 h,
)
  where
    apart : x ≢ back y xs
    apart z =
        let i = back_in x y xs in
        let c = count_here x (y ∷ xs) in
        let b = d x in
        let k : 1 ≤ count x (y ∷ xs) = rw (← z) at i in
        omega arith

-- records cleared
pub blank_sizes : (n : ℕ) → Sizes (replicate n (zeros 80))
unfolding Sizes
blank_sizes zero = tt
blank_sizes (suc n) = (length_zeros 80, blank_sizes n)

pub cleared_free : (rs : List ℕ) (log : List ℕ) → Written log rs (replicate (length rs) (zeros 80)) → every (λ r. free_form (record_at log r)) rs ≡ true
unfolding Written every
cleared_free [] log w = refl
cleared_free (r ∷ rs) log w =
    let e : free_form (record_at log r) ≡ true = ap free_form w.0 ∙ linked_free (front rs) (zeros 80) (length_zeros 80) ∙ zero_free in
    and_of _ _ e (cleared_free rs log w.1)

pub some : (rs : List ℕ) (q : ℕ) → 1 ≤ count q rs → 1 ≤ length rs
some [] q l = let e = count_nil q in omega arith
some (r ∷ rs) q l = omega arith

pub last_here : (rs : List ℕ) → 1 ≤ length rs → 1 ≤ count (back 0 rs) rs
last_here [] l = let z : ⊥ = omega arith in absurd z
last_here (r ∷ rs) l = back_in 0 r rs

back_none : back 0 [] ≡ 0
unfolding back
back_none = refl

-- the last free record, with the index of the next
module _ (log : List ℕ) (n : length log ≡ 40960) (r : ℕ) (low : 1 ≤ r) (high : r ≤ 512) (next : ℕ) where
  long : length (linked_to next (record_at log r)) ≡ 80
  long = length_linked next (record_at log r) (length_record log n r low high)

  pub extended_other : (q : ℕ) → 1 ≤ q → q ≢ r → record_at (extended log r next) q ≡ record_at log q
  unfolding extended
  extended_other q l ne = record_other log n r low high (linked_to next (record_at log r)) long q l ne

  same : record_at (extended log r next) r ≡ linked_to next (record_at log r)
  unfolding extended
  same = record_same log n r low high (linked_to next (record_at log r)) long

  pub extended_next : next_operation (extended log r next) r ≡ next
  unfolding next_operation
  extended_next = rw same (linked_next next (record_at log r) (length_record log n r low high))

  pub extended_free : free_form (record_at (extended log r next) r) ≡ free_form (record_at log r)
  extended_free = rw same (linked_free next (record_at log r) (length_record log n r low high))

-- the log by its lists after the first transaction has been retired
module _ (log t : List ℕ) (ts : List (List ℕ)) (free : List ℕ) (n : length log ≡ 40960) (x : Holds log (t ∷ ts) free) where
  abbrev pub cleared : List ℕ
  cleared = write_all t (replicate (length t) (zeros 80)) log

  -- each record is in one of the three lists
  sum : (q : ℕ) → count q (joined (t ∷ ts) ++ free) ≡ count q t + (count q (joined ts) + count q free)
  unfolding joined
  sum q = let a = count_append q (t ++ joined ts) free in let b = count_append q t (joined ts) in omega arith

  counts : (q : ℕ) → count q t + (count q (joined ts) + count q free) ≤ 1
  counts q = let s = sum q in let c = once_most (joined (t ∷ ts) ++ free) x.once q in omega arith

  in_all : (q : ℕ) → 1 ≤ count q t + (count q (joined ts) + count q free) → (1 ≤ q) × (q ≤ 512)
  in_all q l = let s = sum q in once_in (joined (t ∷ ts) ++ free) x.once q (omega arith)

  parts : (every (within 1 512) t ≡ true) × ((every (within 1 512) (joined ts) ≡ true) × (every (within 1 512) free ≡ true))
  unfolding joined
  parts =
      let w = within 1 512 in
      let a : (every w (t ++ joined ts) && every w free) ≡ true = sym (every_append w (t ++ joined ts) free) ∙ x.once.inside in
      let b : (every w t && every w (joined ts)) ≡ true = sym (every_append w t (joined ts)) ∙ and_left (every w (t ++ joined ts)) (every w free) a in
      (and_left (every w t) (every w (joined ts)) b, (and_right (every w t) (every w (joined ts)) b, and_right (every w (t ++ joined ts)) (every w free) a))

  wrote_it : Wrote log t (replicate (length t) (zeros 80)) cleared
  wrote_it = wrote t (replicate (length t) (zeros 80)) log n (sym (length-replicate {A = List ℕ} (length t) (zeros 80))) parts.0 (λ q. let c = counts q in omega arith) (blank_sizes (length t))

  -- a log in which only the old last free record differs, which leads to the first of the retired
  module _ (log' : List ℕ) (other : (q : ℕ) → 1 ≤ q → q ≤ 512 → (1 ≤ count q free → q ≢ back 0 free) → record_at log' q ≡ record_at cleared q)
      (link : 1 ≤ length free → next_operation log' (back 0 free) ≡ front t) (form : 1 ≤ length free → free_form (record_at log' (back 0 free)) ≡ free_form (record_at cleared (back 0 free))) where
    in_t : (q : ℕ) → 1 ≤ count q t → record_at log' q ≡ record_at cleared q
    in_t q l = let i = in_all q (omega arith) in other q i.0 i.1 (λ m. let c = counts q in let z : ⊥ = omega arith in absurd z)

    in_ts : (q : ℕ) → 1 ≤ count q (joined ts) → record_at log' q ≡ record_at log q
    in_ts q l =
        let i = in_all q (omega arith) in
        let c = counts q in
        other q i.0 i.1 (λ m. let z : ⊥ = omega arith in absurd z) ∙ wrote_it.other q i.0 (omega arith)

    in_free : (q : ℕ) → 1 ≤ count q free → q ≢ back 0 free → record_at log' q ≡ record_at log q
    in_free q l ne = let i = in_all q (omega arith) in let c = counts q in other q i.0 i.1 (λ m. ne) ∙ wrote_it.other q i.0 (omega arith)

    free_forms : (q : ℕ) → 1 ≤ count q free → free_form (record_at log q) ≡ true → free_form (record_at log' q) ≡ true
    free_forms q l h = go (ℕ_discrete q (back 0 free))
      where
        go : Dec (q ≡ back 0 free) → free_form (record_at log' q) ≡ true
        go (yes e) =
            let i = in_all q (omega arith) in
            let c = counts q in
            let o : record_at cleared q ≡ record_at log q = wrote_it.other q i.0 (omega arith) in
            ap (λ k. free_form (record_at log' k)) e ∙ form (some free q l) ∙ ap (λ k. free_form (record_at cleared k)) (sym e) ∙ ap free_form o ∙ h
        go (no ne) = ap free_form (in_free q l ne) ∙ h

    retire_shown : map (texts log') ts ≡ map (texts log) ts
    retire_shown = shown_kept log log' ts (λ q l. ap handed_in (in_ts q l))

    retire_holds : Holds log' ts (free ++ t)
    unfolding Stand joined
    retire_holds = record {
      stand = stand_kept ts log log' in_ts x.stand.1;
      links = linked_join free t log log' (λ q. let c = counts q in omega arith) (λ q l ne. by_next log' log q (in_free q l ne)) link x.links
          (linked_kept cleared log' t (λ q l. by_next log' cleared q (in_t q l)) (written_linked cleared t (replicate (length t) (zeros 80)) (sym (length-replicate {A = List ℕ} (length t) (zeros 80))) (blank_sizes (length t)) wrote_it.new));
      zero = every_append (λ r. free_form (record_at log' r)) free t ∙ and_of _ _ (every_kept (λ r. free_form (record_at log r)) (λ r. free_form (record_at log' r)) free free_forms x.zero)
          (every_kept (λ r. free_form (record_at cleared r)) (λ r. free_form (record_at log' r)) t (λ q l h. ap free_form (in_t q l) ∙ h) (cleared_free t cleared wrote_it.new));
      once = record {
        inside = every_append (within 1 512) (joined ts) (free ++ t) ∙ and_of _ _ parts.1.0 (every_append (within 1 512) free t ∙ and_of _ _ parts.1.1 parts.0);
        once = λ r a b.
            let c = count_append r (joined ts) (free ++ t) in
            let d = count_append r free t in
            let e = sum r in
            let f = x.once.once r a b in
            omega arith;
      };
      all512 =
          let a = length-append free t in
          let b = length-append t (joined ts) in
          let c = x.all512 in
          omega arith;
    }

    pub retire_grown : Grown log' ts (free ++ t) (map (texts log) ts)
    retire_grown = record { holds = retire_holds; shown = retire_shown }

  -- none was free
  pub retire_none : length free ≡ 0 → Grown cleared ts (free ++ t) (map (texts log) ts)
  retire_none e = retire_grown cleared (λ q a b m. refl) (λ l. let z : ⊥ = omega arith in absurd z) (λ l. refl)

  -- some were
  pub retire_some : 1 ≤ length free → Grown (extended cleared (back 0 free) (front t)) ts (free ++ t) (map (texts log) ts)
  retire_some l = retire_grown (extended cleared last (front t))
      (λ q a b m. extended_other cleared size last inside.0 inside.1 (front t) q a (λ e. m (rw (← e) at here) e))
      (λ k. extended_next cleared size last inside.0 inside.1 (front t))
      (λ k. extended_free cleared size last inside.0 inside.1 (front t))
    where
      last : ℕ
      last = back 0 free

      size : length cleared ≡ 40960
      size = wrote_it.size

      here : 1 ≤ count last free
      here = last_here free l

      inside : (1 ≤ last) × (last ≤ 512)
      inside = in_all last (omega (arith, here))

-- a free record is one of the 512
free_inside : (log : List ℕ) (ts : List (List ℕ)) (free : List ℕ) → Holds log ts free → (q : ℕ) → 1 ≤ count q free → 1 ≤ q
free_inside log ts free y q l = let c = count_append q (joined ts) free in (once_in (joined ts ++ free) y.once q (omega arith)).0

-- the whole: retire keeps the two chains, with these control values and these lists
module _ (n : ℕ) (log : List ℕ) (used oldest first last : ℕ) (size : length log ≡ 40960) (h : chains_form (suc n) log used oldest first last ≡ true) where
  abbrev own : List ℕ
  own = records_of log oldest

  abbrev later : List (List ℕ)
  later = transactions n log (next_transaction log oldest)

  abbrev old : List ℕ
  old = free_records log first

  x : Holds log (own ∷ later) old
  unfolding transactions
  x = holds_of (suc n) log used oldest first last h

  -- none is free exactly where `last` is 0
  grown : Grown (released log oldest last) later (old ++ own) (map (texts log) later)
  unfolding released
  grown = go old x (last_is (suc n) log used oldest first last h)
    where
      go : (free : List ℕ) → Holds log (own ∷ later) free → back 0 free ≡ last
          → Grown (cond (eqb last 0) (write_all own (replicate (length own) (zeros 80)) log) (extended (write_all own (replicate (length own) (zeros 80)) log) last (front own))) later (free ++ own) (map (texts log) later)
      go [] y e = rw (eq-eqb last 0 (sym e ∙ back_none)) (retire_none log own later [] size y refl)
      go (r ∷ rs) y e =
          let i : 1 ≤ last = rw e at (free_inside log (own ∷ later) (r ∷ rs) y (back 0 (r ∷ rs)) (last_here (r ∷ rs) (omega arith))) in
          let z : last ≡ 0 → ⊥ = λ q. omega arith in
          rw (ne_eqb last 0 z, ← e) (retire_some log own later (r ∷ rs) size y (omega arith))

  pub retire_lists : Holds (released log oldest last) later (old ++ own)
  retire_lists = grown.holds

  stands : Standing log own (front (joined later))
  unfolding Stand
  stands = x.stand.0

  front_own : front own ≡ oldest
  unfolding records_of
  front_own = front_chain 9 log oldest (omega arith)

  oldest_next : front (joined later) ≡ next_transaction log oldest
  oldest_next = sym (ap (next_transaction log) (sym front_own) ∙ stands.follows)

  used_less : length (joined later) ≡ used - length own
  unfolding joined transactions
  used_less =
      let a : length (own ++ joined later) ≡ used = used_is (suc n) log used oldest first last h in
      let b = length-append own (joined later) in
      omega arith

  first_next : front (old ++ own) ≡ cond (eqb first 0) oldest first
  unfolding front
  first_next = go old (first_is (suc n) log used oldest first last h) x
    where
      go : (free : List ℕ) → front free ≡ first → Holds log (own ∷ later) free → front (free ++ own) ≡ cond (eqb first 0) oldest first
      go [] e y = rw (eq-eqb first 0 (sym e)) front_own
      go (r ∷ rs) e y =
          let c = count_here r rs in
          let i : 1 ≤ r = free_inside log (own ∷ later) (r ∷ rs) y r (omega arith) in
          let z : first ≡ 0 → ⊥ = λ q. omega arith in
          rw (ne_eqb first 0 z) e

  last_next : back 0 (old ++ own) ≡ back 0 own
  last_next = back_append 0 old own ∙ back_some (back 0 old) 0 own stands.low

  pub retire_kept : chains_form n (released log oldest last) (used - length own) (next_transaction log oldest) (cond (eqb first 0) oldest first) (back 0 own) ≡ true
  retire_kept =
      rw (length_transactions n log (next_transaction log oldest), used_less, oldest_next, first_next, last_next) at (of_holds (released log oldest last) later (old ++ own) retire_lists)

  pub retire_log : log_records n (released log oldest last) (next_transaction log oldest) ≡ log_records n log (next_transaction log oldest)
  retire_log =
      (rw (length_transactions n log (next_transaction log oldest), oldest_next) at (log_lists (released log oldest last) later (old ++ own) retire_lists)) ∙ joined_transactions n log (next_transaction log oldest)

  pub retire_free : free_records (released log oldest last) (cond (eqb first 0) oldest first) ≡ old ++ own
  retire_free = rw first_next at (free_lists (released log oldest last) later (old ++ own) retire_lists)

  -- the transactions of the new log: those of the old without its first
  pub retire_texts : transactions_from n (released log oldest last) (next_transaction log oldest) ≡ transactions_from n log (next_transaction log oldest)
  retire_texts =
      (rw (length_transactions n log (next_transaction log oldest), oldest_next) at (shown_lists (released log oldest last) later (old ++ own) retire_lists))
      ∙ grown.shown ∙ sym (shown_transactions n log (next_transaction log oldest))
