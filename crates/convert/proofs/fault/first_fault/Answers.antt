use Rattle.std.proofs.Common.{◌+◌, Some, arith, sym, ap, ◌∙◌}
use Rattle.std.specs.Iterator.Adapters.{enumerate_count}
use Rattle.convert.specs.Fault.{size_by, keeps}
use Rattle.convert.proofs.FaultLaws.{fault_more, fault_here, fault_none}
use Rattle.convert.proofs.PartLaws.{next_part, parts_end}
use Rattle.convert.proofs.fault.first_fault.Goals as goal

pub returns-then-not-is_kept : goal.returns-then-not-is_kept
returns-then-not-is_kept c =
    let carts = c.args.carts.now in
    let rule = c.args.rule in
    let sized = c.size.ensures in
    let k = enumerate_count c.loop-i.i-iterator in
    let known = c.loop-i.invariant in
    let cart = c.in-Some.cart.now in
    let step = c.in-Some.ensures.steps in
    let next = next_part (size_by rule) 128 k carts c.requires known.1 cart _ (omega arith) step.0.1.0 (step.0.1.1 ∙ known.0) in
    let kept = c.is_kept.ensures ∙ ap (λ i. keeps rule (i + 1) cart) step.1 ∙ ap (keeps rule (k + 1)) next.here in
    ap (λ i. Some (i + 1)) step.1 ∙ fault_here (keeps rule) (size_by rule) 128 k carts known.2 next.below (sym kept ∙ c.if-not-is_kept.true)

pub loop-i-preserved : goal.loop-i-preserved
loop-i-preserved c =
    let carts = c.args.carts.now in
    let rule = c.args.rule in
    let sized = c.size.ensures in
    let k = enumerate_count c.loop-i.i-iterator in
    let known = c.loop-i.invariant in
    let cart = c.in-Some.cart.now in
    let step = c.in-Some.ensures.steps in
    let next = next_part (size_by rule) 128 k carts c.requires known.1 cart _ (omega arith) step.0.1.0 (step.0.1.1 ∙ known.0) in
    let kept = c.is_kept.ensures ∙ ap (λ i. keeps rule (i + 1) cart) step.1 ∙ ap (keeps rule (k + 1)) next.here in
    rw step.2 (step.0.0 ∙ known.0, next.left, fault_more (keeps rule) (size_by rule) 128 k carts known.2 next.below (sym kept ∙ c.if-not-is_kept.false))

pub returns : goal.returns
returns c =
    let carts = c.args.carts.now in
    let size = size_by c.args.rule in
    let k = enumerate_count c.loop-i.i-iterator in
    let known = c.loop-i.invariant in
    let step = c.in-None.ensures.steps in
    fault_none (keeps c.args.rule) size 128 k carts known.2 (parts_end size 128 k carts c.requires known.1 (omega arith))
