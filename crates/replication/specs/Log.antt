-- The log by control: documents 01 and 02, S-9. Records, chains and what is written to them: crate log.
use Rattle.std.specs.Prelude.{Bool, ◌||◌, List, ℕ, ◌+◌, ◌-◌, leb, ltb}
use Rattle.carts.specs.Transaction.{Transaction}
use Rattle.edit_log.specs.Log.{record_count, transaction_at, transactions_from, walk}
use Rattle.replication.specs.Memory.{most_commits}
use Rattle.replication.specs.declared.control.Control.{Control}

-- S-9: "The log's chain has commits − retired transactions"
unfoldable pub log_count : Control → ℕ
log_count c = c.commits - c.retired

-- the transaction after the first n, where the first `retired` are no longer in the chain
unfoldable pub transaction_after : Control → List ℕ → ℕ → List (List ℕ)
transaction_after c log n = transaction_at log (walk (n - c.retired) log c.oldest)

-- the transactions of the log's chain, as they were handed in
abbrev pub logged : Control → List ℕ → List Transaction
logged c log = transactions_from (log_count c) log c.oldest

-- S-9: "Refusal 7 is given exactly when the free records are fewer than the operations or 65,535 has been used": every record is in one of the two chains, so
-- 512 − used are free (`free_many` of crate log)
unfoldable pub no_room : ℕ → ℕ → ℕ → Bool
no_room used commits n = ltb record_count (used + n) || leb most_commits commits
