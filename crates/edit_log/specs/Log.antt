-- Document 01, "Log memory" and "Log", with document 02's S-9: records, their links, the chains along them, and the walk.
use Rattle.std.specs.Prelude.{cond, List, [], ◌∷◌, ◌++◌, map, ℕ, zero, suc, ◌+◌, ◌*◌, ◌-◌, eqb}
use Rattle.carts.specs.Bytes.{part, over, u16, zeros}
use Rattle.carts.specs.Cart.{links_at}
use Rattle.carts.specs.Transaction.{Transaction}

-- "Log memory, 40,960 bytes: 512 records of 80 bytes"
abbrev pub record_size : ℕ
record_size = 80

abbrev pub record_count : ℕ
record_count = 512

abbrev pub log_size : ℕ
log_size = 40960

-- "transactions of 1 to 8 operations"
abbrev pub most_operations : ℕ
most_operations = 8

-- "record r, counted from 1, begins at byte 80(r − 1)"
unfoldable pub record_at : List ℕ → ℕ → List ℕ
record_at log r = part log (record_size * (r - 1)) record_size

unfoldable pub with_record : List ℕ → ℕ → List ℕ → List ℕ
with_record log r x = over log (record_size * (r - 1)) record_size x

-- "bytes 12–13 are the index of the next operation of its transaction"; of a free record, S-9's "bytes 12–13, the next free one"
unfoldable pub next_operation : List ℕ → ℕ → ℕ
next_operation log r = u16 (record_at log r) links_at

-- "bytes 14–15, in a transaction's first record only, are the first record of the next transaction"
unfoldable pub next_transaction : List ℕ → ℕ → ℕ
next_transaction log r = u16 (record_at log r) (links_at + 2)

-- "Zero ends either chain": the records from r on along bytes 12–13, at most n
unfoldable pub chain : ℕ → List ℕ → ℕ → List ℕ
chain zero log r = []
chain (suc n) log r =
    let more = r ∷ chain n log (next_operation log r) in
    cond (eqb r 0) [] more

-- the records of the transaction whose first record is r; one more than it may have, so that a longer one shows
unfoldable pub records_of : List ℕ → ℕ → List ℕ
records_of log r = chain (most_operations + 1) log r

-- S-9, "a chain of free records": from record r on; one more than there are records, so that a chain that does not end shows
unfoldable pub free_records : List ℕ → ℕ → List ℕ
free_records log r = chain (record_count + 1) log r

-- the operations of the transaction whose first record is r, each with its links in bytes 12–15
unfoldable pub transaction_at : List ℕ → ℕ → List (List ℕ)
transaction_at log r = map (record_at log) (records_of log r)

-- a record's operation as it was handed in: its links, bytes 12–15, are zero again
unfoldable pub handed_in : List ℕ → List ℕ
handed_in x = over x links_at 4 (zeros 4)

-- n transactions along the chain, the first at record r: their operations as they were handed in
unfoldable pub transactions_from : ℕ → List ℕ → ℕ → List Transaction
transactions_from zero log r = []
transactions_from (suc n) log r = map handed_in (transaction_at log r) ∷ transactions_from n log (next_transaction log r)

-- S-9, "the log's chain": the records of n transactions, the first at record r, in the order of their operations
unfoldable pub log_records : ℕ → List ℕ → ℕ → List ℕ
log_records zero log r = []
log_records (suc n) log r = records_of log r ++ log_records n log (next_transaction log r)

-- "The walk to the n-th transaction": the first record of the transaction n further on than the one at r
unfoldable pub walk : ℕ → List ℕ → ℕ → ℕ
walk zero log r = r
walk (suc n) log r = walk n log (next_transaction log r)

-- r, r + 1, .., n of them
unfoldable pub up_from : ℕ → ℕ → List ℕ
up_from r zero = []
up_from r (suc n) = r ∷ up_from (r + 1) n

-- the first of a list of records; 0 for none
unfoldable pub front : List ℕ → ℕ
front [] = 0
front (r ∷ rs) = r

-- the last of a list of records; d for none
unfoldable pub back : ℕ → List ℕ → ℕ
back d [] = d
back d (r ∷ rs) = back r rs

-- the record after k along bytes 12–13 from record r on
unfoldable pub follow : ℕ → List ℕ → ℕ → ℕ
follow zero log r = r
follow (suc k) log r = follow k log (next_operation log r)
