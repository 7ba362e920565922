-- Document 02, S-9: "every record is in exactly one chain and each chain ends". A test for any bytes and any indexes.
use Rattle.std.specs.Prelude.{Bool, cond, ◌&&◌, List, [], ◌∷◌, ◌++◌, ℕ, zero, suc, ◌+◌, ◌-◌, length, drop, eqb}
use Rattle.carts.specs.Bytes.{part, within, all, every, all_zero}
use Rattle.carts.specs.Cart.{links_at}
use Rattle.carts.specs.Operation.{operation_fields}
use Rattle.edit_log.specs.Log.{record_size, record_count, most_operations, record_at, next_transaction, records_of, free_records, log_records, up_from, back}

-- the records of one transaction: "1 to 8 operations"; "A record is an operation" with links in bytes 12–15, of which 14–15 "in a
-- transaction's first record only"
unfoldable pub own_form : List ℕ → List ℕ → Bool
own_form log own =
    all (within 1 most_operations (length own)
    ∷ every (λ q. operation_fields (record_at log q)) own
    ∷ every (λ q. eqb (next_transaction log q) 0) (drop 1 own)
    ∷ [])

-- "The log's chain has commits − retired transactions": n of that form, the first at record r, and none after them
unfoldable pub transactions_form : ℕ → List ℕ → ℕ → Bool
transactions_form zero log r = eqb r 0
transactions_form (suc n) log r =
    let rest = transactions_form n log (next_transaction log r) in
    own_form log (records_of log r) && rest

-- "A free record is zero but for bytes 12–13"
unfoldable pub free_form : List ℕ → Bool
free_form x = all (all_zero (part x 0 links_at) ∷ all_zero (part x (links_at + 2) (record_size - links_at - 2)) ∷ [])

-- how often r occurs
unfoldable pub count : ℕ → List ℕ → ℕ
count r [] = 0
count r (x ∷ xs) = cond (eqb x r) 1 0 + count r xs

-- "every record is in exactly one chain": each of the two lists' records is one of the 512, and each of the 512 occurs once
unfoldable pub once_each : List ℕ → Bool
once_each rs = all (every (within 1 record_count) rs ∷ every (λ r. eqb (count r rs) 1) (up_from 1 record_count) ∷ [])

-- the two chains of a log: n transactions in `used` records, the oldest at record `oldest`; the free records from `first` to `last`
-- ("0 for none")
unfoldable pub chains_form : ℕ → List ℕ → ℕ → ℕ → ℕ → ℕ → Bool
chains_form n log used oldest first last =
    let own = log_records n log oldest in
    let free = free_records log first in
    all (transactions_form n log oldest
    ∷ eqb (length own) used
    ∷ eqb (used + length free) record_count
    ∷ every (λ r. free_form (record_at log r)) free
    ∷ eqb (back 0 free) last
    ∷ once_each (own ++ free)
    ∷ [])
