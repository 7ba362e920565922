use Rattle.std.proofs.Common.{◌≡◌, length, arith, ap, ◌∙◌}
use native.Mathlib.Nat.{add-sub_cancel_left}
use Rattle.std.specs.Iterator.Adapters.{enumerate_count}
use Rattle.old_edition.specs.Convert.{widened}
use Rattle.old_edition.proofs.OldCartLaws.{length_widened}
use Rattle.old_edition.proofs.EachCartLaws.{next_chunk, chunks_end, put_more, put_done}
use Rattle.old_edition.proofs.file.put_copy.Goals as goal

pub loop-i-preserved : goal.loop-i-preserved
loop-i-preserved c =
    let carts = c.args.carts.now in
    let copy = c.loop-i.copy in
    let k = enumerate_count c.loop-i.i-iterator in
    let known = c.loop-i.invariant in
    let cart = c.in-Some.cart.now in
    let step = c.in-Some.ensures.steps in
    let size : length cart ≡ 48 = step.0.1.1 ∙ known.0 in
    let chunk = next_chunk 48 k carts cart _ (omega arith) known.1 step.0.1.0 size in
    let place = c.put_wide.new.place in
    let whole : length place ≡ 80 = ap length c.put_wide.ensures ∙ length_widened cart size in
    rw (step.2, step.1, add-sub_cancel_left) (
      step.0.0 ∙ known.0,
      chunk.left,
      put_more widened 48 80 128 k carts copy place (omega arith) (omega arith) whole (c.put_wide.ensures ∙ ap widened chunk.here) known.2,
    )

pub returns : goal.returns
returns c =
    let carts = c.args.carts.now in
    let k = enumerate_count c.loop-i.i-iterator in
    let known = c.loop-i.invariant in
    let step = c.in-None.ensures.steps in
    let left = chunks_end 48 k carts known.1 (omega arith) in
    put_done widened 48 80 128 k carts c.loop-i.copy (omega arith) (omega arith) known.2
