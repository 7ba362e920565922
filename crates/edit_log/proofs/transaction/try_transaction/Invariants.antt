use Rattle.std.proofs.Common.{◌≡◌, ◌-◌, true, ◌&&◌, map, length}
use Rattle.carts.specs.Bytes.{every}
use Rattle.carts.specs.Operation.{meets_all, act_all}
use Rattle.edit_log.specs.Log.{record_at, chain, transaction_at}
use Rattle.edit_log.specs.Values.{usable}
use Rattle.edit_log.proofs.transaction.try_transaction.Given as goal

abbrev pub invariant-loop : goal.invariant-loop
invariant-loop l =
    let left = chain (9 - l.counter) l.log l.r in
    let rest = map (record_at l.log) left in
    (length l.copy ≡ 10240) × (every (usable l.log) left ≡ true) × (meets_all l.fn.copy (transaction_at l.log l.first) ≡ (l.ok && meets_all l.copy rest))
    × (act_all l.fn.copy (transaction_at l.log l.first) ≡ act_all l.copy rest)
