use Rattle.std.proofs.Common.{◌≡◌, ◌&&◌, ◌-◌, ◌*◌, drop}
use Rattle.carts.specs.Bytes.{each_part}
use Rattle.carts.specs.Cart.{cart_form, copy_form}
use Rattle.carts.proofs.cart.is_copy.Given as goal

abbrev pub invariant-loop-c : goal.invariant-loop-c
invariant-loop-c l = copy_form l.copy ≡ (l.ok && each_part cart_form 80 (128 - (l.c - 1)) l.c (drop (80 * (l.c - 1)) l.copy))
