use Rattle.std.proofs.Common.{◌≡◌, ◌&&◌, eqb, drop, length}
use Rattle.carts.specs.Bytes.{pairwise}
use Rattle.carts.proofs.bytes.are_equal.Given as goal

abbrev pub invariant-loop-x : goal.invariant-loop-x
invariant-loop-x l = pairwise eqb l.a l.b ≡ (l.ok && pairwise eqb (drop (length l.yielded) l.a) (drop (length l.yielded) l.b))
