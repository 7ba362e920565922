-- What the code's parts give, by the definitions: a record's links; records met one after the other; one transaction; one chain.
use Rattle.std.specs.Prelude.{Bool, true, false, not, cond, ◌&&◌, List, [], ◌∷◌, ◌≡◌, ℕ, zero, suc, ◌+◌, ◌-◌, ◌≤◌, length, get_or, set, leb, eqb}
use Rattle.carts.specs.Bytes.{u16, within, all, every}
use Rattle.carts.specs.Cart.{cart_count}
use Rattle.carts.specs.Operation.{operation_fields}
use Rattle.edit_log.specs.Log.{record_count, most_operations, record_at, next_operation, next_transaction, chain, records_of, log_records, back}
use Rattle.edit_log.specs.Chains.{own_form, transactions_form, free_form, count}
use Rattle.edit_log.specs.declared.record.Record.{Record}
use Rattle.edit_log.specs.declared.free.Freed.{Freed}

-- a record's links
abbrev pub links_of : List ℕ → ℕ → Record
links_of log r = record { next_operation = next_operation log r; next_transaction = next_transaction log r }

-- a record of the log whose operation can act on a copy: its index and its cart's number are in range
unfoldable pub usable : List ℕ → ℕ → Bool
usable log r = all (within 1 record_count r ∷ within 1 cart_count (u16 (record_at log r) 2) ∷ [])

-- `left` has a mark for each record: true where it has still to be met. Record r is one of the 512, and has not been met
unfoldable pub is_left : List Bool → ℕ → Bool
is_left left r = within 1 record_count r && get_or left (r - 1) false

-- what is left when record r has been met, and when each of a list has been
unfoldable pub met : List Bool → ℕ → List Bool
met left r = set left (r - 1) false

unfoldable pub met_each : List Bool → List ℕ → List Bool
met_each left [] = left
met_each left (r ∷ rs) = met_each (met left r) rs

-- each record has been met
unfoldable pub all_met : List Bool → Bool
all_met left = every not left

-- each of a list is left when its turn comes
unfoldable pub are_left : List Bool → List ℕ → Bool
are_left left [] = true
are_left left (r ∷ rs) = let rest = are_left (met left r) rs in is_left left r && rest

-- record r is left, and an operation
unfoldable pub operation_left : List ℕ → List Bool → ℕ → Bool
operation_left log left r = is_left left r && operation_fields (record_at log r)

-- a record that is not the first of its transaction
unfoldable pub later_form : List ℕ → ℕ → Bool
later_form log q = operation_fields (record_at log q) && eqb (next_transaction log q) 0

-- how many records a transaction has, of which n have been met and the rest begins at r; 0 where it is not of the layout
unfoldable pub size_from : ℕ → List ℕ → List Bool → ℕ → ℕ
size_from n log left r =
    let rest = chain (most_operations + 1 - n) log r in
    cond (all (leb (n + length rest) most_operations ∷ are_left left rest ∷ every (later_form log) rest ∷ [])) (n + length rest) 0

unfoldable pub size_of : List ℕ → List Bool → ℕ → ℕ
size_of log left r = cond (own_form log (records_of log r) && are_left left (records_of log r)) (length (records_of log r)) 0

-- n transactions from r on, all left, with so many records
unfoldable pub log_test : ℕ → List ℕ → List Bool → ℕ → ℕ → Bool
log_test n log left r room = all (transactions_form n log r ∷ eqb (length (log_records n log r)) room ∷ are_left left (log_records n log r) ∷ [])

-- free records `rest`, all left, so many, ending with `last`; `before` is the one before them
unfoldable pub free_test : List ℕ → List Bool → List ℕ → ℕ → ℕ → ℕ → Bool
free_test log left rest many before last =
    all (eqb (length rest) many ∷ are_left left rest ∷ every (λ r. free_form (record_at log r)) rest ∷ eqb (back before rest) last ∷ [])

-- the n records that a walk from record r reads are records of the log
unfoldable pub walkable : ℕ → List ℕ → ℕ → Bool
walkable zero log r = true
walkable (suc n) log r = let rest = walkable n log (next_transaction log r) in within 1 record_count r && rest

-- the k records from r on can be written one after the other: there are k, all of the 512, none twice
pub record Takeable (k : ℕ) (log : List ℕ) (r : ℕ) : Type 0 where
  pub many : length (chain k log r) ≡ k
  pub inside : every (within 1 record_count) (chain k log r) ≡ true
  pub distinct : (q : ℕ) → count q (chain k log r) ≤ 1

-- the records from r on along bytes 12–13 can be written one after the other: at most 8, all of the 512, none twice
pub record Ending (log : List ℕ) (r : ℕ) : Type 0 where
  pub few : length (records_of log r) ≤ most_operations
  pub inside : every (within 1 record_count) (records_of log r) ≡ true
  pub distinct : (q : ℕ) → count q (records_of log r) ≤ 1

-- those records: how many, and the last of them
abbrev pub freed_of : List ℕ → ℕ → Freed
freed_of log r = record { count = length (records_of log r); last = back 0 (records_of log r) }
