use Rattle.std.proofs.Common.{◌≡◌, ◌&&◌, drop}
use Rattle.carts.specs.Bytes.{every}
use Rattle.carts.specs.Cart.{printable}
use Rattle.carts.proofs.bytes.all_printable.Given as goal

abbrev pub invariant-loop-b : goal.invariant-loop-b
invariant-loop-b l = every printable l.s ≡ (l.ok && every printable (drop l.b-index l.s))
