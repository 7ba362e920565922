-- A log by its lists: the transactions' records ts in their order, and the free records; and the layout's test from them and to them.
use Prim.Native.Nat.{ℕ, zero, suc, ◌+◌, ◌≤◌}
use mathlib.Core.Path.{◌≡◌, refl, sym, ap, ◌∙◌}
use mathlib.Core.Bool.{Bool, true, ◌&&◌}
use mathlib.Core.List.{List, [], ◌∷◌, ◌++◌, map}
use native.Mathlib.Omega.{arith}
use lib.ListN.{length, drop}
use lib.Dec.{eqb}
use borrow.Author.Tests.{eq-eqb, eqb-true}
use Rattle.carts.specs.Bytes.{within, all, every}
use Rattle.carts.specs.Operation.{operation_fields}
use Rattle.carts.proofs.TestLaws.{and_left, and_right, all_at, all_cons, all_nil, within_low, within_high, within_of}
use Rattle.edit_log.specs.Log.{record_at, next_transaction, chain, records_of, transaction_at, front, handed_in, transactions_from, log_records, free_records, back}
use Rattle.edit_log.specs.Chains.{own_form, transactions_form, free_form, count, chains_form}
use Rattle.edit_log.proofs.BoolLaws.{and_of}
use Rattle.edit_log.proofs.ListLaws.{count_more, Linked, linked_chain, front_chain, chain_linked, every_append, front_append}
use Rattle.edit_log.proofs.OnceLaws.{count_here, count_append, Once, once_of, of_once}
use Rattle.edit_log.proofs.WholeLaws.{chains_tests}

-- the records of all transactions
unfoldable pub joined : List (List ℕ) → List ℕ
joined [] = []
joined (t ∷ ts) = t ++ joined ts

-- a transaction in the records t, linked to the transaction at record `next`
pub record Standing (log t : List ℕ) (next : ℕ) : Type 0 where
  pub low : 1 ≤ length t
  pub high : length t ≤ 8
  pub fields : every (λ q. operation_fields (record_at log q)) t ≡ true
  pub links : Linked log t
  pub later : every (λ q. eqb (next_transaction log q) 0) (drop 1 t) ≡ true
  pub follows : next_transaction log (front t) ≡ next

unfoldable pub Stand : List ℕ → List (List ℕ) → Type 0
Stand log [] = Unit {0}
Stand log (t ∷ ts) = Standing log t (front (joined ts)) × Stand log ts

-- the log has the transactions ts and the free records; control's values are told by the lists
pub record Holds (log : List ℕ) (ts : List (List ℕ)) (free : List ℕ) : Type 0 where
  pub stand : Stand log ts
  pub links : Linked log free
  pub zero : every (λ r. free_form (record_at log r)) free ≡ true
  pub once : Once (joined ts ++ free)
  pub all512 : length (joined ts) + length free ≡ 512

-- the transactions along the chain
unfoldable pub transactions : ℕ → List ℕ → ℕ → List (List ℕ)
transactions zero log r = []
transactions (suc n) log r = records_of log r ∷ transactions n log (next_transaction log r)

pub length_transactions : (n : ℕ) (log : List ℕ) (r : ℕ) → length (transactions n log r) ≡ n
unfolding transactions
length_transactions zero log r = refl
length_transactions (suc n) log r = ap suc (length_transactions n log (next_transaction log r))

pub joined_transactions : (n : ℕ) (log : List ℕ) (r : ℕ) → joined (transactions n log r) ≡ log_records n log r
unfolding transactions joined log_records
joined_transactions zero log r = refl
joined_transactions (suc n) log r = ap (λ z. records_of log r ++ z) (joined_transactions n log (next_transaction log r))

abbrev own_tests : List ℕ → List ℕ → List Bool
own_tests log own = within 1 8 (length own) ∷ every (λ q. operation_fields (record_at log q)) own ∷ every (λ q. eqb (next_transaction log q) 0) (drop 1 own) ∷ []

front_none : front [] ≡ 0
unfolding front
front_none = refl

-- the test's transactions stand, and the first is where the test says
pub stand_of : (n : ℕ) (log : List ℕ) (r : ℕ) → transactions_form n log r ≡ true → Stand log (transactions n log r) × (front (joined (transactions n log r)) ≡ r)
unfolding transactions_form transactions Stand joined own_form records_of
stand_of zero log r h = (tt, zero_front (eqb-true r 0 h))
  where
    zero_front : r ≡ 0 → front [] ≡ r
    zero_front e = front_none ∙ sym e
stand_of (suc n) log r h =
    let own = chain 9 log r in
    let rec = stand_of n log (next_transaction log r) (and_right (all (own_tests log own)) (transactions_form n log (next_transaction log r)) h) in
    let pass = and_left (all (own_tests log own)) (transactions_form n log (next_transaction log r)) h in
    let small = all_at 0 (own_tests log own) pass in
    let low = within_low 1 8 (length own) small in
    let high = within_high 1 8 (length own) small in
    let here : front own ≡ r = front_chain 9 log r (omega arith) in (
      (
        record {
          low = low;
          high = high;
          fields = all_at 1 (own_tests log own) pass;
          links = chain_linked 9 log r (omega arith);
          later = all_at 2 (own_tests log own) pass;
          follows = ap (next_transaction log) here ∙ sym rec.1;
        },
        rec.0,
      ),
      front_append own (joined (transactions n log (next_transaction log r))) low ∙ here,
    )

-- and the other way round
pub of_stand : (ts : List (List ℕ)) (log : List ℕ) → every (within 1 512) (joined ts) ≡ true → Stand log ts
    → (transactions_form (length ts) log (front (joined ts)) ≡ true) × (log_records (length ts) log (front (joined ts)) ≡ joined ts)
unfolding transactions_form log_records Stand joined own_form records_of
of_stand [] log i s = (eq-eqb (front []) 0 front_none, refl)
of_stand (t ∷ ts) log i s =
    let x = s.0 in
    let low = x.low in
    let high = x.high in
    let both : (every (within 1 512) t && every (within 1 512) (joined ts)) ≡ true = sym (every_append (within 1 512) t (joined ts)) ∙ i in
    let rec = of_stand ts log (and_right (every (within 1 512) t) (every (within 1 512) (joined ts)) both) s.1 in
    let here : front (t ++ joined ts) ≡ front t = front_append t (joined ts) low in
    let own : chain 9 log (front t) ≡ t = linked_chain t 9 log (and_left (every (within 1 512) t) (every (within 1 512) (joined ts)) both) (omega arith) x.links in
    let next = x.follows in
    let pass : all (own_tests log t) ≡ true = all_cons _ _ (within_of 1 8 (length t) low high) (all_cons _ _ x.fields (all_cons _ _ x.later all_nil)) in
    (rw (here, own, next) (and_of _ _ pass rec.0), rw (here, own, next) (ap (λ z. t ++ z) rec.1))

pub stand_lists : (ts : List (List ℕ)) (log : List ℕ) → every (within 1 512) (joined ts) ≡ true → Stand log ts → transactions (length ts) log (front (joined ts)) ≡ ts
unfolding Stand joined transactions records_of
stand_lists [] log i s = refl
stand_lists (t ∷ ts) log i s =
    let x = s.0 in
    let low = x.low in
    let high = x.high in
    let both : (every (within 1 512) t && every (within 1 512) (joined ts)) ≡ true = sym (every_append (within 1 512) t (joined ts)) ∙ i in
    let here : front (t ++ joined ts) ≡ front t = front_append t (joined ts) low in
    let own : chain 9 log (front t) ≡ t = linked_chain t 9 log (and_left (every (within 1 512) t) (every (within 1 512) (joined ts)) both) (omega arith) x.links in
    let next = x.follows in
    rw (here, own, next) (ap (λ z. t ∷ z) (stand_lists ts log (and_right (every (within 1 512) t) (every (within 1 512) (joined ts)) both) s.1))

-- the operations in the records of a list, as they were handed in
abbrev pub texts : List ℕ → List ℕ → List (List ℕ)
texts log rs = map handed_in (map (record_at log) rs)

pub shown_transactions : (n : ℕ) (log : List ℕ) (r : ℕ) → transactions_from n log r ≡ map (texts log) (transactions n log r)
unfolding transactions_from transactions transaction_at
shown_transactions zero log r = refl
shown_transactions (suc n) log r = ap (λ z. texts log (records_of log r) ∷ z) (shown_transactions n log (next_transaction log r))

pub texts_kept : (log log' rs : List ℕ) → ((q : ℕ) → 1 ≤ count q rs → handed_in (record_at log' q) ≡ handed_in (record_at log q)) → texts log' rs ≡ texts log rs
texts_kept log log' [] f = refl
texts_kept log log' (r ∷ rs) f =
    let c = count_here r rs in
    let e : handed_in (record_at log' r) ≡ handed_in (record_at log r) = f r (omega arith) in
    let t = texts_kept log log' rs (λ q l. let m = count_more q r rs in f q (omega arith)) in
    rw (e, t)

pub shown_kept : (log log' : List ℕ) (ts : List (List ℕ)) → ((q : ℕ) → 1 ≤ count q (joined ts) → handed_in (record_at log' q) ≡ handed_in (record_at log q)) → map (texts log') ts ≡ map (texts log) ts
unfolding joined
shown_kept log log' [] f = refl
shown_kept log log' (t ∷ ts) f =
    rw (texts_kept log log' t (λ q l. f q (let c = count_append q t (joined ts) in omega arith)), shown_kept log log' ts (λ q l. f q (let c = count_append q t (joined ts) in omega arith)))

-- the whole test
module _ (n : ℕ) (log : List ℕ) (used oldest first last : ℕ) (h : chains_form n log used oldest first last ≡ true) where
  tests : all (chains_tests n log used oldest first last) ≡ true
  unfolding chains_form
  tests = h

  pub holds_of : Holds log (transactions n log oldest) (free_records log first)
  unfolding free_records
  holds_of =
      let e = eqb-true (length (log_records n log oldest)) used (all_at 1 (chains_tests n log used oldest first last) tests) in
      let f = eqb-true (used + length (chain 513 log first)) 512 (all_at 2 (chains_tests n log used oldest first last) tests) in
      let j = joined_transactions n log oldest in
      record {
        stand = (stand_of n log oldest (all_at 0 (chains_tests n log used oldest first last) tests)).0;
        links = chain_linked 513 log first (omega arith);
        zero = all_at 3 (chains_tests n log used oldest first last) tests;
        once = rw j (once_of (log_records n log oldest ++ chain 513 log first) (all_at 5 (chains_tests n log used oldest first last) tests));
        all512 = rw j (omega arith);
      }

  pub used_is : length (joined (transactions n log oldest)) ≡ used
  used_is = ap length (joined_transactions n log oldest) ∙ eqb-true (length (log_records n log oldest)) used (all_at 1 (chains_tests n log used oldest first last) tests)

  pub oldest_is : front (joined (transactions n log oldest)) ≡ oldest
  oldest_is = (stand_of n log oldest (all_at 0 (chains_tests n log used oldest first last) tests)).1

  pub first_is : front (free_records log first) ≡ first
  unfolding free_records
  first_is = front_chain 513 log first (omega arith)

  pub last_is : back 0 (free_records log first) ≡ last
  last_is = eqb-true (back 0 (free_records log first)) last (all_at 4 (chains_tests n log used oldest first last) tests)

-- a log by its lists has two chains of the layout, with these lists
module _ (log : List ℕ) (ts : List (List ℕ)) (free : List ℕ) (x : Holds log ts free) where
  inside : (every (within 1 512) (joined ts) && every (within 1 512) free) ≡ true
  inside = sym (every_append (within 1 512) (joined ts) free) ∙ x.once.inside

  pub log_lists : log_records (length ts) log (front (joined ts)) ≡ joined ts
  log_lists = (of_stand ts log (and_left (every (within 1 512) (joined ts)) (every (within 1 512) free) inside) x.stand).1

  pub free_lists : free_records log (front free) ≡ free
  unfolding free_records
  free_lists = let n = x.all512 in linked_chain free 513 log (and_right (every (within 1 512) (joined ts)) (every (within 1 512) free) inside) (omega arith) x.links

  pub of_holds : chains_form (length ts) log (length (joined ts)) (front (joined ts)) (front free) (back 0 free) ≡ true
  unfolding chains_form
  of_holds = rw (log_lists, free_lists)
      (all_cons _ _ (of_stand ts log (and_left (every (within 1 512) (joined ts)) (every (within 1 512) free) inside) x.stand).0
      (all_cons _ _ (eq-eqb (length (joined ts)) (length (joined ts)) refl)
      (all_cons _ _ (eq-eqb (length (joined ts) + length free) 512 x.all512)
      (all_cons _ _ x.zero
      (all_cons _ _ (eq-eqb (back 0 free) (back 0 free) refl) (all_cons _ _ (of_once (joined ts ++ free) x.once) all_nil))))))

  pub transactions_lists : transactions (length ts) log (front (joined ts)) ≡ ts
  transactions_lists = stand_lists ts log (and_left (every (within 1 512) (joined ts)) (every (within 1 512) free) inside) x.stand

  -- the operations of each transaction
  pub shown_lists : transactions_from (length ts) log (front (joined ts)) ≡ map (texts log) ts
  shown_lists = shown_transactions (length ts) log (front (joined ts)) ∙ ap (map (texts log)) transactions_lists
