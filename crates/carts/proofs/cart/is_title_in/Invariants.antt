use Rattle.std.proofs.Common.{◌≡◌, ◌&&◌, ◌-◌, length, drop}
use Rattle.carts.proofs.CartLaws.{letters}
use Rattle.carts.proofs.cart.is_title_in.Given as goal

abbrev pub invariant-loop-b : goal.invariant-loop-b
invariant-loop-b l = letters l.n l.field ≡ (l.ok && letters (l.n - length l.yielded) (drop (length l.yielded) l.field))
