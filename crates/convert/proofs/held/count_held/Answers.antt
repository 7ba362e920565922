use Rattle.std.proofs.Common.{◌≡◌, ◌+◌, ◌++◌, ◌∷◌, [], true, false, length, arith, sym, ap, refl, ◌∙◌, length-append}
use lib.Dec.{eqb}
use borrow.Author.Tests.{eq-eqb, ne_eqb}
use Rattle.carts.specs.Bytes.{byte}
use Rattle.convert.proofs.HeldLaws.{held_more, held_all}
use Rattle.convert.proofs.PartLaws.{next_part, parts_end}
use Rattle.convert.proofs.held.count_held.Goals as goal

pub loop-cart-preserved-then-cart-eq1 : goal.loop-cart-preserved-then-cart-eq1
loop-cart-preserved-then-cart-eq1 c =
    let carts = c.args.carts.now in
    let k = length c.loop-cart.yielded in
    let known = c.loop-cart.invariant in
    let step = c.in-Some.ensures.steps in
    let next = next_part c.args.size 128 k carts c.requires.0 known.1 c.in-Some.cart.now _ c.requires.1 step.1.0 (step.1.1 ∙ known.0) in
    let more : length (c.loop-cart.yielded ++ (c.in-Some.cart ∷ [])) ≡ k + 1 = length-append c.loop-cart.yielded (c.in-Some.cart ∷ []) in
    let is = ap (λ x. eqb (byte x 0) 1) (sym next.here) ∙ eq-eqb _ 1 c.if-cart-eq1.true in
    rw more (step.0 ∙ known.0, next.left, omega arith, held_more c.args.size 128 k carts c.loop-cart.held known.3 next.below true is refl)

pub loop-cart-preserved : goal.loop-cart-preserved
loop-cart-preserved c =
    let carts = c.args.carts.now in
    let k = length c.loop-cart.yielded in
    let known = c.loop-cart.invariant in
    let step = c.in-Some.ensures.steps in
    let next = next_part c.args.size 128 k carts c.requires.0 known.1 c.in-Some.cart.now _ c.requires.1 step.1.0 (step.1.1 ∙ known.0) in
    let more : length (c.loop-cart.yielded ++ (c.in-Some.cart ∷ [])) ≡ k + 1 = length-append c.loop-cart.yielded (c.in-Some.cart ∷ []) in
    let is = ap (λ x. eqb (byte x 0) 1) (sym next.here) ∙ ne_eqb _ 1 c.if-cart-eq1.false in
    rw more (step.0 ∙ known.0, next.left, omega arith, held_more c.args.size 128 k carts c.loop-cart.held known.3 next.below false is (omega arith))

pub returns : goal.returns
returns c =
    let k = length c.loop-cart.yielded in
    let known = c.loop-cart.invariant in
    let step = c.in-None.ensures.steps in
    held_all c.args.size 128 k c.args.carts.now c.loop-cart.held known.3 (parts_end c.args.size 128 k c.args.carts.now c.requires.0 known.1 (omega arith))
