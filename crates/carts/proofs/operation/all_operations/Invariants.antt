use Rattle.std.proofs.Common.{◌≡◌, ◌&&◌, ◌-◌, ◌*◌, ◌/◌, length, drop}
use Rattle.carts.specs.Bytes.{each_part, every}
use Rattle.carts.specs.Operation.{operation_form, operations_of}
use Rattle.carts.proofs.ChunkLaws.{Passed}
use Rattle.carts.proofs.operation.all_operations.Given as goal

abbrev pub invariant-loop-op : goal.invariant-loop-op
invariant-loop-op l = let i = length l.yielded in
    Passed i l.ops l.op-iterator × (every operation_form (operations_of l.ops) ≡ (l.ok && each_part (λ k. operation_form) 80 (length l.ops / 80 - i) i (drop (80 * i) l.ops)))
