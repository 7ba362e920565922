use Rattle.std.proofs.Common.{◌≡◌, ◌&&◌, ◌+◌, ◌-◌, ap, arith, ◌∙◌}
use Rattle.carts.specs.Cart.{cart_at, cart_form}
use Rattle.carts.proofs.RecordLaws.{each_more, each_done}
use Rattle.carts.proofs.cart.is_copy.Goals as goal

pub loop-c-preserved : goal.loop-c-preserved
unfolding cart_at
loop-c-preserved c =
    let k = c.loop-c.c in
    let ok = c.loop-c.ok in
    let form = c.is_cart-ok.ensures ∙ ap (cart_form k) c.cart_at.ensures.0 in
    let next : k + 1 - 1 ≡ k - 1 + 1 = omega arith in
    rw next (each_more cart_form 80 128 (k - 1) k c.args.copy.now ok (omega arith) c.loop-c.invariant (ap (λ b. ok && b) form))

pub returns : goal.returns
returns c = each_done cart_form 80 128 (c.loop-c.c - 1) c.loop-c.c c.args.copy.now c.loop-c.ok (omega arith) c.loop-c.invariant
