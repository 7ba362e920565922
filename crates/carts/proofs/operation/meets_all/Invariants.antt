use Rattle.std.proofs.Common.{◌≡◌, ◌&&◌, ◌-◌, ◌*◌, ◌/◌, length, drop}
use Rattle.carts.specs.Bytes.{parts}
use Rattle.carts.specs.Operation.{operations_of, meets_all, act_all}
use Rattle.carts.proofs.ChunkLaws.{Passed}
use Rattle.carts.proofs.operation.meets_all.Given as goal

abbrev pub invariant-loop-i : goal.invariant-loop-i
invariant-loop-i l = let i = length l.yielded in
    Passed i l.ops l.i-iterator.iter × (l.i-iterator.count ≡ i) × (meets_all l.copy (operations_of l.ops) ≡ (l.ok && meets_all (act_all l.copy (parts 80 i l.ops)) (parts 80 (length l.ops / 80 - i) (drop (80 * i) l.ops))))
