-- A log of the layout: the walk comes to each of its transactions, whose records can act on a copy.
use Prim.Native.Nat.{ℕ, zero, suc, ◌≤◌, ◌<◌}
use mathlib.Core.Path.{◌≡◌, refl, sym, ap, ◌∙◌}
use mathlib.Core.Bool.{Bool, true, ◌&&◌}
use mathlib.Core.List.{List, [], ◌∷◌, map}
use native.Mathlib.Omega.{arith}
use lib.ListN.{length, drop, length-append}
use lib.Dec.{eqb}
use borrow.Author.Tests.{eq-eqb}
use Rattle.carts.specs.Bytes.{within, all, every}
use Rattle.carts.specs.Operation.{operation_fields}
use Rattle.carts.proofs.TestLaws.{and_left, and_right, all_at, all_cons, all_nil, every_map, within_low, within_high, within_of}
use Rattle.carts.proofs.OperationLaws.{Operations, fields_cart}
use Rattle.edit_log.specs.Log.{record_at, next_transaction, records_of, transaction_at, log_records, free_records, walk}
use Rattle.edit_log.specs.Chains.{own_form, transactions_form, chains_form}
use Rattle.edit_log.specs.Values.{usable, walkable}
use Rattle.edit_log.proofs.BoolLaws.{and_of}
use Rattle.edit_log.proofs.ListLaws.{every_append, every_kept}
use Rattle.edit_log.proofs.OnceLaws.{every_in}
use Rattle.edit_log.proofs.HoldLaws.{Holds, joined, transactions, joined_transactions, holds_of, used_is}
use Rattle.edit_log.proofs.WriteLaws.{length_record}
use Rattle.edit_log.proofs.WholeLaws.{chains_tests}
use Rattle.edit_log.proofs.CommitLaws.{log_walkable}

-- the tests of one transaction
module _ (n : ℕ) (log : List ℕ) (r : ℕ) (h : transactions_form (suc n) log r ≡ true) where
  tests : List Bool
  tests = within 1 8 (length (records_of log r)) ∷ every (λ q. operation_fields (record_at log q)) (records_of log r) ∷ every (λ q. eqb (next_transaction log q) 0) (drop 1 (records_of log r)) ∷ []

  both : (all tests && transactions_form n log (next_transaction log r)) ≡ true
  unfolding transactions_form own_form tests
  both = h

  pub own_few : (1 ≤ length (records_of log r)) × (length (records_of log r) ≤ 8)
  unfolding tests
  own_few =
      let small = all_at 0 tests (and_left (all tests) (transactions_form n log (next_transaction log r)) both) in
      (within_low 1 8 (length (records_of log r)) small, within_high 1 8 (length (records_of log r)) small)

  pub own_fields : every (λ q. operation_fields (record_at log q)) (records_of log r) ≡ true
  unfolding tests
  own_fields = all_at 1 tests (and_left (all tests) (transactions_form n log (next_transaction log r)) both)

  pub later_form_law : transactions_form n log (next_transaction log r) ≡ true
  later_form_law = and_right (all tests) (transactions_form n log (next_transaction log r)) both

-- each transaction takes a record at least, and each record is an operation
log_most : (n : ℕ) (log : List ℕ) (r : ℕ) → transactions_form n log r ≡ true → n ≤ length (log_records n log r)
unfolding log_records
log_most zero log r h = omega arith
log_most (suc n) log r h =
    let rec = log_most n log (next_transaction log r) (later_form_law n log r h) in
    let e = length-append (records_of log r) (log_records n log (next_transaction log r)) in
    omega (arith, (own_few n log r h).0)

log_fields : (n : ℕ) (log : List ℕ) (r : ℕ) → transactions_form n log r ≡ true → every (λ q. operation_fields (record_at log q)) (log_records n log r) ≡ true
unfolding log_records every
log_fields zero log r h = refl
log_fields (suc n) log r h =
    every_append (λ q. operation_fields (record_at log q)) (records_of log r) (log_records n log (next_transaction log r))
    ∙ and_of _ _ (own_fields n log r h) (log_fields n log (next_transaction log r) (later_form_law n log r h))

-- what each record of the chain passes, each record of the transaction k further on passes
pub every_transaction : (p : ℕ → Bool) (n : ℕ) (log : List ℕ) (r k : ℕ) → k < n → every p (log_records n log r) ≡ true → every p (records_of log (walk k log r)) ≡ true
unfolding log_records walk
every_transaction p zero log r k l h = let z : ⊥ = omega arith in absurd z
every_transaction p (suc n) log r k l h = go k l (sym (every_append p (records_of log r) (log_records n log (next_transaction log r))) ∙ h) (every_transaction p n log (next_transaction log r))
  where
    go : (k : ℕ) → k < suc n → (every p (records_of log r) && every p (log_records n log (next_transaction log r))) ≡ true
        → ((k : ℕ) → k < n → every p (log_records n log (next_transaction log r)) ≡ true → every p (records_of log (walk k log (next_transaction log r))) ≡ true)
        → every p (records_of log (walk k log r)) ≡ true
    go zero l b rec = and_left (every p (records_of log r)) (every p (log_records n log (next_transaction log r))) b
    go (suc k) l b rec = rec k (omega arith) (and_right (every p (records_of log r)) (every p (log_records n log (next_transaction log r))) b)

-- how many records that transaction has
own_length : (n : ℕ) (log : List ℕ) (r k : ℕ) → k < n → transactions_form n log r ≡ true → (1 ≤ length (records_of log (walk k log r))) × (length (records_of log (walk k log r)) ≤ 8)
unfolding walk
own_length zero log r k l h = let z : ⊥ = omega arith in absurd z
own_length (suc n) log r zero l h = own_few n log r h
own_length (suc n) log r (suc k) l h = own_length n log (next_transaction log r) k (omega arith) (later_form_law n log r h)

-- a shorter walk
fewer : (n : ℕ) (log : List ℕ) (r : ℕ) → walkable n log r ≡ true → (k : ℕ) → k ≤ n → walkable k log r ≡ true
unfolding walkable
fewer n log r w zero l = refl
fewer zero log r w (suc k) l = let z : ⊥ = omega arith in absurd z
fewer (suc n) log r w (suc k) l =
    let rest = walkable n log (next_transaction log r) in
    rw (and_left (within 1 512 r) rest w) (fewer n log (next_transaction log r) (and_right (within 1 512 r) rest w) k (omega arith))

module _ (n : ℕ) (log : List ℕ) (used oldest first last : ℕ) (size : length log ≡ 40960) (h : chains_form n log used oldest first last ≡ true) where
  form : transactions_form n log oldest ≡ true
  unfolding chains_form
  form = all_at 0 (chains_tests n log used oldest first last) h

  x : Holds log (transactions n log oldest) (free_records log first)
  x = holds_of n log used oldest first last h

  pub log_used : length (log_records n log oldest) ≡ used
  log_used = ap length (sym (joined_transactions n log oldest)) ∙ used_is n log used oldest first last h

  pub used_few : used ≤ 512
  used_few = let a = x.all512 in let u = used_is n log used oldest first last h in omega arith

  pub count_few : n ≤ used
  count_few = let u = log_used in let l = log_most n log oldest form in omega arith

  pub log_inside : every (within 1 512) (log_records n log oldest) ≡ true
  log_inside =
      let w = within 1 512 in
      let own = joined (transactions n log oldest) in
      ap (every w) (sym (joined_transactions n log oldest)) ∙ and_left (every w own) (every w (free_records log first)) (sym (every_append w own (free_records log first)) ∙ x.once.inside)

  -- each record can act on a copy
  pub log_usable : every (usable log) (log_records n log oldest) ≡ true
  unfolding usable
  log_usable = every_kept (λ q. operation_fields (record_at log q)) (usable log) (log_records n log oldest) (λ q l e.
      let i = every_in (within 1 512) (log_records n log oldest) q log_inside l in
      let o = fields_cart (record_at log q) e in
      all_cons _ _ i (all_cons _ _ (within_of 1 128 _ o.0 o.1) all_nil)) (log_fields n log oldest form)

  pub walks : (k : ℕ) → k ≤ n → walkable k log oldest ≡ true
  walks = fewer n log oldest (log_walkable n log used oldest first last h)

  -- the transaction k further on than the oldest: its records can act on a copy, it has 1 to 8 of them, and its operations are of their fields
  module _ (k : ℕ) (l : k < n) where
    pub transaction_usable : every (usable log) (records_of log (walk k log oldest)) ≡ true
    transaction_usable = every_transaction (usable log) n log oldest k l log_usable

    pub transaction_length : (1 ≤ length (records_of log (walk k log oldest))) × (length (records_of log (walk k log oldest)) ≤ 8)
    transaction_length = own_length n log oldest k l form

    pub transaction_operations : Operations (transaction_at log (walk k log oldest))
    unfolding transaction_at
    transaction_operations = record {
      sizes = each (λ op. eqb (length op) 80) (every_kept (within 1 512) (λ q. eqb (length (record_at log q)) 80) (log_records n log oldest)
          (λ q c w. eq-eqb _ 80 (length_record log size q (within_low 1 512 q w) (within_high 1 512 q w))) log_inside);
      fields = each operation_fields (log_fields n log oldest form);
    }
      where
        each : (t : List ℕ → Bool) → every (λ q. t (record_at log q)) (log_records n log oldest) ≡ true → every t (map (record_at log) (records_of log (walk k log oldest))) ≡ true
        each t e = every_map t (record_at log) _ ∙ every_transaction (λ q. t (record_at log q)) n log oldest k l e
