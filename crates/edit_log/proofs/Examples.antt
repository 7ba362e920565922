-- WORKED EXAMPLES of the definitions, by computation: two chains whose records stand in no order.
use mathlib.Core.Path.{◌≡◌, refl}
use mathlib.Core.Bool.{true, false}
use mathlib.Core.List.{List, [], ◌∷◌}
use Prim.Native.Nat.{ℕ}
use lib.ListN.{set, replicate}
use Rattle.carts.specs.Bytes.{zeros, u16, u32, u16_bytes, within, all, every, all_zero}
use Rattle.carts.specs.Cart.{printable, title_form, has_title, no_title, has_audio, no_audio}
use Rattle.carts.specs.Operation.{operation_fields}
use Rattle.carts.proofs.Samples.{u32_bytes, operation, new_cart, withdraw_cart, top_hour_a}
use Rattle.edit_log.specs.Log.{record_at, with_record, next_operation, next_transaction, chain, records_of, free_records, log_records, walk, up_from, front, back, follow}
use Rattle.edit_log.specs.Chains.{own_form, transactions_form, free_form}
use Rattle.edit_log.specs.Writes.{write_all, linked, extended, appended, released}

unfoldable A : List ℕ
A = new_cart 7 top_hour_a 501 8000

-- a short log of five records, all free, in the order 4, 2, 5, 1, 3
unfoldable free : List ℕ
free = write_all (4 ∷ 2 ∷ 5 ∷ 1 ∷ 3 ∷ []) (replicate 5 (zeros 80)) (zeros 400)

-- a transaction of two operations, then one of one
unfoldable first : List ℕ
first = appended 0 free 0 4 (A ∷ withdraw_cart 7 ∷ [])

unfoldable both : List ℕ
both = appended 1 first 4 5 (A ∷ [])

-- the first retired
unfoldable later : List ℕ
later = released both 4 3

-- nine records, free from 1 to 9 in order: a transaction of n operations
unfoldable long : ℕ → List ℕ
long n = appended 0 (write_all (up_from 1 9) (replicate 9 (zeros 80)) (zeros 720)) 0 1 (replicate n A)

pub record Chains : Type 0 where
  free_all : free_records free 4 ≡ 4 ∷ 2 ∷ 5 ∷ 1 ∷ 3 ∷ []
  free_last : back 0 (free_records free 4) ≡ 3
  one_transaction : log_records 1 first 4 ≡ 4 ∷ 2 ∷ []
  one_form : transactions_form 1 first 4 ≡ true
  free_then : free_records first (follow 2 free 4) ≡ 5 ∷ 1 ∷ 3 ∷ []
  two_transactions : log_records 2 both 4 ≡ 4 ∷ 2 ∷ 5 ∷ []
  two_form : transactions_form 2 both 4 ≡ true
  fewer : transactions_form 1 both 4 ≡ false
  more : transactions_form 3 both 4 ≡ false
  link : next_transaction both 4 ≡ 5
  link_end : next_transaction both 5 ≡ 0
  walk_1 : walk 1 both 4 ≡ 5
  free_less : free_records both 1 ≡ 1 ∷ 3 ∷ []
  retired_log : log_records 1 later 5 ≡ 5 ∷ []
  retired_form : transactions_form 1 later 5 ≡ true
  retired_free : free_records later 1 ≡ 1 ∷ 3 ∷ 4 ∷ 2 ∷ []
  retired_zero : every (λ r. free_form (record_at later r)) (1 ∷ 3 ∷ 4 ∷ 2 ∷ []) ≡ true
  not_free : free_form (record_at later 5) ≡ false
  retired_all : free_records (released later 5 2) 1 ≡ 1 ∷ 3 ∷ 4 ∷ 2 ∷ 5 ∷ []
  link_in_second : transactions_form 2 (set both 94 3) 4 ≡ false
  loop : transactions_form 1 (set first 92 4) 4 ≡ false
  eight_operations : transactions_form 1 (long 8) 1 ≡ true
  nine_operations : transactions_form 1 (long 9) 1 ≡ false

pub chains : Chains
unfolding A free first both later long zeros u16 u32 u16_bytes within all every all_zero printable title_form has_title no_title has_audio no_audio operation_fields u32_bytes operation new_cart withdraw_cart top_hour_a record_at with_record next_operation next_transaction chain records_of free_records log_records walk up_from front back follow own_form transactions_form free_form write_all linked extended appended released
chains = record {
  free_all = refl;
  free_last = refl;
  one_transaction = refl;
  one_form = refl;
  free_then = refl;
  two_transactions = refl;
  two_form = refl;
  fewer = refl;
  more = refl;
  link = refl;
  link_end = refl;
  walk_1 = refl;
  free_less = refl;
  retired_log = refl;
  retired_form = refl;
  retired_free = refl;
  retired_zero = refl;
  not_free = refl;
  retired_all = refl;
  link_in_second = refl;
  loop = refl;
  eight_operations = refl;
  nine_operations = refl;
}
