use Rattle.std.proofs.Common.{◌&&◌, ◌+◌, arith, ap, ◌∙◌}
use Rattle.std.specs.Iterator.Adapters.{enumerate_count}
use Rattle.carts.proofs.RecordLaws.{each_more, each_done}
use Rattle.old_edition.specs.OldFile.{old_cart_form}
use Rattle.old_edition.proofs.EachCartLaws.{next_chunk, chunks_end}
use Rattle.old_edition.proofs.file.are_old_carts.Goals as goal

pub loop-i-preserved : goal.loop-i-preserved
loop-i-preserved c =
    let carts = c.args.carts.now in
    let ok = c.loop-i.ok in
    let k = enumerate_count c.loop-i.i-iterator in
    let known = c.loop-i.invariant in
    let cart = c.in-Some.cart.now in
    let step = c.in-Some.ensures.steps in
    let chunk = next_chunk 48 k carts cart _ (omega arith) known.1 step.0.1.0 (step.0.1.1 ∙ known.0) in
    let form = c.is_old_cart-ok.ensures ∙ ap (λ i. old_cart_form (i + 1) cart) step.1 ∙ ap (old_cart_form (k + 1)) chunk.here in
    rw step.2 (
      step.0.0 ∙ known.0,
      chunk.left,
      each_more old_cart_form 48 128 k (k + 1) carts ok (omega arith) known.2 (ap (λ b. ok && b) form),
    )

pub returns : goal.returns
returns c =
    let carts = c.args.carts.now in
    let k = enumerate_count c.loop-i.i-iterator in
    let known = c.loop-i.invariant in
    let step = c.in-None.ensures.steps in
    let left = chunks_end 48 k carts known.1 (omega arith) in
    each_done old_cart_form 48 128 k (k + 1) carts c.loop-i.ok (omega arith) known.2
