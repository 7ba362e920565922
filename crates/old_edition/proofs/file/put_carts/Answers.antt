use Rattle.std.proofs.Common.{◌≡◌, length, arith, ap, ◌∙◌}
use native.Mathlib.Nat.{add-sub_cancel_left}
use Rattle.std.specs.Iterator.Adapters.{enumerate_count}
use Rattle.old_edition.specs.Convert.{narrowed}
use Rattle.old_edition.proofs.OldCartLaws.{length_narrowed}
use Rattle.old_edition.proofs.EachCartLaws.{next_chunk, chunks_end, put_more, put_done}
use Rattle.old_edition.proofs.file.put_carts.Goals as goal

pub loop-i-preserved : goal.loop-i-preserved
loop-i-preserved c =
    let copy = c.args.copy.now in
    let carts = c.loop-i.carts in
    let k = enumerate_count c.loop-i.i-iterator in
    let known = c.loop-i.invariant in
    let cart = c.in-Some.cart.now in
    let step = c.in-Some.ensures.steps in
    let size : length cart ≡ 80 = step.0.1.1 ∙ known.0 in
    let chunk = next_chunk 80 k copy cart _ (omega arith) known.1 step.0.1.0 size in
    let place = c.put_narrow.new.place in
    let whole : length place ≡ 48 = ap length c.put_narrow.ensures ∙ length_narrowed cart size in
    rw (step.2, step.1, add-sub_cancel_left) (
      step.0.0 ∙ known.0,
      chunk.left,
      put_more narrowed 80 48 128 k copy carts place (omega arith) (omega arith) whole (c.put_narrow.ensures ∙ ap narrowed chunk.here) known.2,
    )

pub returns : goal.returns
returns c =
    let copy = c.args.copy.now in
    let k = enumerate_count c.loop-i.i-iterator in
    let known = c.loop-i.invariant in
    let step = c.in-None.ensures.steps in
    let left = chunks_end 80 k copy known.1 (omega arith) in
    put_done narrowed 80 48 128 k copy c.loop-i.carts (omega arith) (omega arith) known.2
