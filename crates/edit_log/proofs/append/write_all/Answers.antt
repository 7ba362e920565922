use Rattle.std.proofs.Common.{◌≡◌, ◌-◌, ◌*◌, ◌/◌, ◌<◌, length, drop, arith, refl, sym, ap, ◌∙◌, length-drop}
use native.Mathlib.Nat.{sub-zero}
use Rattle.std.specs.Iterator.Adapters.{enumerate_count}
use Rattle.carts.specs.Operation.{operations_of}
use Rattle.edit_log.specs.declared.record.Record.{Record}
use Rattle.edit_log.proofs.TakeLaws.{op_fits, op_is, op_rest, write_end, follow_end, here, write_next, takeable_next, follow_next}
use Rattle.edit_log.proofs.append.write_all.Goals as goal

pub loop-i-init : goal.loop-i-init
unfolding operations_of
loop-i-init c =
    let items = c.enumerate-i-items.ensures in
    let ops = c.chunks_exact.ensures in
    rw (c.into_iter-i-iterator.ensures.into_iter_gives, items.source, items.count, ops.rest, ops.size, sub-zero) (refl, refl, omega arith, c.requires.1, refl, refl)

pub at-after-requires : goal.at-after-requires
at-after-requires c =
    let v = c.loop-i.invariant in
    let s = c.in-Some.ensures.steps in
    let fits = op_fits c.args.ops.now _ _ _ (sym v.0 ∙ s.0.1.0) (s.0.1.1 ∙ v.1) in
    (c.loop-i.auto.log ∙ c.requires.0, here (length c.args.ops.now / 80) _ c.args.ops.now _ _ (omega arith) v.3)

pub fill-requires-clause-cell : goal.fill-requires-clause-cell
fill-requires-clause-cell c =
    let v = c.loop-i.invariant in
    let s = c.in-Some.ensures.steps in
    let fits = op_fits c.args.ops.now _ _ _ (sym v.0 ∙ s.0.1.0) (s.0.1.1 ∙ v.1) in
    let h = here (length c.args.ops.now / 80) _ c.args.ops.now _ _ (omega arith) v.3 in
    let size = c.loop-i.auto.log ∙ c.requires.0 in
    let low = h.0 in
    let high = h.1 in
    ((low, omega arith), s.0.1.1 ∙ v.1)

pub loop-i-preserved : goal.loop-i-preserved
loop-i-preserved c =
    let v = c.loop-i.invariant in
    let s = c.in-Some.ensures.steps in
    let ops = c.args.ops.now in
    let n = length ops / 80 in
    let i = enumerate_count c.loop-i.i-iterator in
    let log = c.loop-i.log in
    let r = c.loop-i.r in
    let e = sym v.0 ∙ s.0.1.0 in
    let long = s.0.1.1 ∙ v.1 in
    let fits = op_fits ops _ _ _ e long in
    let l : i < n = omega arith in
    let size = c.loop-i.auto.log ∙ c.requires.0 in
    let after = ap (λ (x : Record). x.next_operation) c.at-after.ensures.0 in
    let next = rw s.1 at c.next_operation-next.ensures in
    let is_op = op_is ops _ _ _ e long in
    rw s.2 (
      op_rest ops _ _ _ e long,
      s.0.0 ∙ v.1,
      omega arith,
      takeable_next n i ops log r l v.3 size _ after _ next.0 next.1.0 _ long is_op _ c.fill.ensures,
      v.4 ∙ write_next n i ops log r l v.3 size _ after _ next.0 next.1.0 _ long is_op _ c.fill.ensures,
      v.5 ∙ follow_next n i ops log r l v.3 size _ after _ next.0 next.1.0 _ long is_op _ c.fill.ensures,
    )

pub returns : goal.returns
returns c =
    let v = c.loop-i.invariant in
    let s = c.in-None.ensures.steps in
    let ops = c.args.ops.now in
    let i = enumerate_count c.loop-i.i-iterator in
    let less : length (drop (80 * i) ops) < 80 = rw (v.0, v.1) at s.0.1.0 in
    let d : length (drop (80 * i) ops) ≡ length ops - 80 * i = length-drop (80 * i) ops in
    (sym (v.4 ∙ write_end _ _ _ _ _ (omega arith)), sym (v.5 ∙ follow_end (length ops / 80) i ops c.loop-i.log c.loop-i.r (omega arith)))
