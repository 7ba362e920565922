use Rattle.std.proofs.Common.{◌≡◌, ◌||◌, ◌+◌, ◌++◌, ◌∷◌, [], length, arith, ap, ◌∙◌, length-append}
use Rattle.carts.proofs.RecordLaws.{any_more, any_done}
use Rattle.old_edition.specs.Convert.{long_title}
use Rattle.old_edition.proofs.EachCartLaws.{next_chunk, chunks_end}
use Rattle.old_edition.proofs.file.has_long_title.Goals as goal

pub loop-cart-preserved : goal.loop-cart-preserved
loop-cart-preserved c =
    let copy = c.args.copy.now in
    let k = length c.loop-cart.yielded in
    let known = c.loop-cart.invariant in
    let cart = c.in-Some.cart.now in
    let step = c.in-Some.ensures.steps in
    let chunk = next_chunk 80 k copy cart _ (omega arith) known.1 step.1.0 (step.1.1 ∙ known.0) in
    let more : length (c.loop-cart.yielded ++ (c.in-Some.cart ∷ [])) ≡ k + 1 = length-append c.loop-cart.yielded (c.in-Some.cart ∷ []) in
    rw more (
      step.0 ∙ known.0,
      chunk.left,
      any_more long_title 80 128 k copy c.loop-cart.found (omega arith) known.2 (ap (λ b. c.loop-cart.found || b) (c.is_long_title-found.ensures ∙ ap long_title chunk.here)),
    )

pub returns : goal.returns
returns c =
    let copy = c.args.copy.now in
    let k = length c.loop-cart.yielded in
    let known = c.loop-cart.invariant in
    let step = c.in-None.ensures.steps in
    let left = chunks_end 80 k copy known.1 (omega arith) in
    any_done long_title 80 128 k copy c.loop-cart.found (omega arith) known.2
