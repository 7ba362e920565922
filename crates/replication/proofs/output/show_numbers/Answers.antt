use Prim.Native.Nat.{ℕ, ◌*◌}
use mathlib.Core.Path.{◌≡◌, ap, ◌∙◌}
use mathlib.Core.Bool.{cond}
use native.Mathlib.Omega.{arith}
use lib.ListN.{length}
use Rattle.carts.specs.Bytes.{over}
use Rattle.carts.specs.Cart.{cart_at, held}
use Rattle.carts.specs.Title.{shown_by_numbers}
use Rattle.replication.specs.Request.{numbers_in}
use Rattle.replication.proofs.LayoutLaws.{length_lent}
use Rattle.replication.proofs.OutputLaws.{found_start, shown_start, found_more, shown_more, found_end, shown_end, one_at_most, few_numbers, number_within}
use Rattle.replication.proofs.output.show_numbers.Goals as goal

pub loop-i-init : goal.loop-i-init
loop-i-init c = let g = c.args in
    let e = c.requires.count in
    record { few = omega arith; found = found_start g.copy.now g.request.now _ e; shown = shown_start g.copy.now g.request.now _ e g.output.now }

pub u16_at-c-requires : goal.u16_at-c-requires
u16_at-c-requires c = let k = few_numbers c.args.request.now c.requires.request.0 in omega (arith, c.requires.count)

pub show_cart-found-requires : goal.show_cart-found-requires
show_cart-found-requires c =
    let n = c.requires.count in
    let e = c.u16_at-c.ensures.0 in
    let w = number_within c.args.request.now c.requires.request.0 c.loop-i.i (omega arith) in
    record { copy = (c.requires.copy.0, (omega arith, omega arith)); place = length_lent 80 c.loop-i.i c.loop-i.output (omega arith) }

pub overflow_add-found : goal.overflow_add-found
overflow_add-found c = let m = one_at_most _ _ c.show_cart-found.ensures.0 in omega arith

pub loop-i-preserved : goal.loop-i-preserved
loop-i-preserved c = let g = c.args in
    let i = c.loop-i.i in
    let e = c.u16_at-c.ensures.0 in
    let m = one_at_most _ _ c.show_cart-found.ensures.0 in
    let h = c.loop-i-test.true in
    let cart : c.show_cart-found.new.place ≡ cart_at g.copy.now c.u16_at-c.result = c.show_cart-found.ensures.1 in
    let k : length c.show_cart-found.new.place ≡ 80 = c.show_cart-found.auto.place ∙ length_lent 80 i c.loop-i.output (omega arith) in
    record {
      few = omega arith;
      found = found_more g.copy.now g.request.now _ i c.loop-i.found c.show_cart-found.result h c.loop-i.invariant.found
          (c.show_cart-found.ensures.0 ∙ ap (λ (v : ℕ). cond {A = ℕ} (held (cart_at g.copy.now v)) 1 0) e);
      shown = shown_more g.copy.now g.request.now _ i c.loop-i.output c.show_cart-found.new.place h (omega arith) k c.loop-i.invariant.shown (cart ∙ ap (cart_at g.copy.now) e);
    }

pub returns : goal.returns
returns c = let g = c.args in
    let e = c.requires.count in
    let h = c.loop-i-test.false in (
      found_end g.copy.now g.request.now _ c.loop-i.i c.loop-i.found h c.loop-i.invariant.found,
      shown_end g.copy.now g.request.now _ c.loop-i.i c.loop-i.output h c.loop-i.invariant.shown
          ∙ ap (λ n. over g.output.now 0 (80 * n) (shown_by_numbers g.copy.now (numbers_in g.request.now))) e,
    )
