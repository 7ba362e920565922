use Rattle.std.proofs.Common.{◌≡◌, ◌&&◌, eqb, drop}
use Rattle.carts.specs.Bytes.{all_zero}
use Rattle.carts.proofs.bytes.all_zero.Given as goal

abbrev pub invariant-loop-b : goal.invariant-loop-b
invariant-loop-b l = all_zero l.s ≡ (eqb l.joined 0 && all_zero (drop l.b-index l.s))
