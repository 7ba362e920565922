use Rattle.std.proofs.Common.{◌≡◌, true, ◌&&◌, ◌-◌, ◌*◌, ◌/◌, length, drop}
use Rattle.carts.specs.Bytes.{every, parts}
use Rattle.carts.specs.Operation.{operation_fields, operations_of, meets_all, act_all}
use Rattle.carts.proofs.ChunkLaws.{Passed}
use Rattle.carts.proofs.operation.try_all.Given as goal

abbrev pub invariant-loop-operation : goal.invariant-loop-operation
invariant-loop-operation l =
    let i = length l.yielded in
    let left = parts 80 (length l.ops / 80 - i) (drop (80 * i) l.ops) in record {
      passed : Passed i l.ops l.operation-iterator;
      size : length l.copy ≡ 10240;
      fields : every operation_fields left ≡ true;
      met : meets_all l.fn.copy (operations_of l.ops) ≡ (l.ok && meets_all l.copy left);
      acted : act_all l.fn.copy (operations_of l.ops) ≡ act_all l.copy left;
    }
