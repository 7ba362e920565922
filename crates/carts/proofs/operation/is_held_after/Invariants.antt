use Rattle.std.proofs.Common.{◌≡◌, ◌+◌, length}
use Rattle.carts.specs.Bytes.{parts}
use Rattle.carts.specs.Cart.{cart_at, held}
use Rattle.carts.specs.Operation.{act_all}
use Rattle.carts.proofs.ChunkLaws.{Passed}
use Rattle.carts.proofs.operation.is_held_after.Given as goal

abbrev pub invariant-loop-op : goal.invariant-loop-op
invariant-loop-op l = let i = length l.yielded in
    Passed i l.ops l.op-iterator.iter × (l.op-iterator.n + i ≡ l.n) × (l.state ≡ held (cart_at (act_all l.copy (parts 80 i l.ops)) l.c))
