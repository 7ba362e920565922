use Rattle.std.proofs.Common.{◌≡◌, ◌||◌, ◌-◌, ◌*◌, ◌/◌, length, drop}
use Rattle.carts.specs.Bytes.{any, parts}
use Rattle.carts.specs.Operation.{spaced, operations_of}
use Rattle.carts.proofs.ChunkLaws.{Passed}
use Rattle.carts.proofs.operation.any_spaced.Given as goal

abbrev pub invariant-loop-op : goal.invariant-loop-op
invariant-loop-op l = let i = length l.yielded in
    Passed i l.ops l.op-iterator × (any spaced (operations_of l.ops) ≡ (l.found || any spaced (parts 80 (length l.ops / 80 - i) (drop (80 * i) l.ops))))
