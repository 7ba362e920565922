-- The log that setup leaves (document 02, S-9), and the log after a commit and after a retire.
use Rattle.std.specs.Prelude.{cond, List, [], ◌∷◌, ℕ, ◌+◌, ◌-◌, length, replicate, eqb}
use Rattle.carts.specs.Bytes.{zeros, over, u16_bytes}
use Rattle.carts.specs.Cart.{links_at}
use Rattle.edit_log.specs.Log.{record_size, record_count, log_size, record_at, with_record, chain, records_of, walk, up_from, front}

-- each operation written to its record, with the index of the next one
unfoldable pub write_all : List ℕ → List (List ℕ) → List ℕ → List ℕ
write_all [] ops log = log
write_all (r ∷ rs) [] log = log
write_all (r ∷ rs) (op ∷ ops) log = write_all rs ops (with_record log r (over op links_at 2 (u16_bytes (front rs))))

-- records that become free, each with the index of the next one: "A free record is zero but for bytes 12–13, the next free one"
abbrev pub free_all : List ℕ → List ℕ → List ℕ
free_all rs log = write_all rs (replicate (length rs) (zeros record_size)) log

-- "after setup the free chain is 1 to 512 in order"
unfoldable pub fresh_log : List ℕ
fresh_log = free_all (up_from 1 record_count) (zeros log_size)

-- record r, with the first record of the next transaction in bytes 14–15
unfoldable pub linked : List ℕ → ℕ → ℕ → List ℕ
linked log r first = with_record log r (over (record_at log r) (links_at + 2) 2 (u16_bytes first))

-- record r, with the index of the next free record in bytes 12–13
unfoldable pub extended : List ℕ → ℕ → ℕ → List ℕ
extended log r next = with_record log r (over (record_at log r) links_at 2 (u16_bytes next))

-- "Commit takes records from the front of the free chain": n transactions, the oldest at record `oldest`, and the free chain from record `first`
-- on. The operations are written to its first records, and the last transaction, if there is one, is linked to them.
unfoldable pub appended : ℕ → List ℕ → ℕ → ℕ → List (List ℕ) → List ℕ
appended n log oldest first ops =
    let taken = chain (length ops) log first in
    let written = write_all taken ops log in
    let joined = linked written (walk (n - 1) log oldest) (front taken) in
    cond (eqb n 0) written joined

-- "retired ones join its end in the order of their operations": the records of the transaction at record `oldest` become free, and the last free
-- record, if there is one, leads to the first of them
unfoldable pub released : List ℕ → ℕ → ℕ → List ℕ
released log oldest last =
    let own = records_of log oldest in
    let freed = free_all own log in
    let joined = extended freed last (front own) in
    cond (eqb last 0) freed joined
