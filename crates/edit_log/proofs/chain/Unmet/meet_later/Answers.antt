use Rattle.std.proofs.Common.{arith, sym, ap, ◌∙◌}
use Rattle.edit_log.specs.declared.record.Record.{Record}
use Rattle.edit_log.proofs.MeetLaws.{operation_in, size_end, size_out, size_linked, size_more, size_past, met_more, met_end}
use Rattle.edit_log.proofs.chain.Unmet.meet_later.Goals as goal

pub returns-then-r-eq0 : goal.returns-then-r-eq0
returns-then-r-eq0 c = let v = c.loop-n.invariant in (omega arith, (size_end _ _ _ _ (omega arith) (omega arith) ∙ sym v.0, sym (v.1 ∙ met_end _ _ _ _ (omega arith))))

pub returns-then-not-meet_operation : goal.returns-then-not-meet_operation
returns-then-not-meet_operation c =
    let out = sym c.meet_operation.ensures.0 ∙ c.if-not-meet_operation.true in
    c.loop-n.invariant.0 ∙ sym (size_out _ _ _ _ (omega arith) (omega arith) out)

pub at-links-requires : goal.at-links-requires
at-links-requires c = (c.requires, operation_in _ _ _ (sym c.meet_operation.ensures.0 ∙ c.if-not-meet_operation.false))

pub returns-then-links-ne0 : goal.returns-then-links-ne0
returns-then-links-ne0 c =
    let next = ap (λ (x : Record). x.next_transaction) c.at-links.ensures.0 in
    c.loop-n.invariant.0 ∙ sym (size_linked _ _ _ _ (omega arith) (omega arith) (λ z. c.if-links-ne0.true (next ∙ z)))

pub loop-n-preserved : goal.loop-n-preserved
loop-n-preserved c =
    let v = c.loop-n.invariant in
    let is = c.if-not-meet_operation.false in
    let met = c.meet_operation.ensures.1 is in
    let last = sym (ap (λ (x : Record). x.next_transaction) c.at-links.ensures.0) ∙ c.if-links-ne0.false in
    rw c.at-links.ensures.0
    (v.0 ∙ size_more _ _ _ _ (omega arith) (omega arith) (sym c.meet_operation.ensures.0 ∙ is) last _ met, v.1 ∙ met_more _ _ _ _ (omega arith) (omega arith) _ met)

pub returns : goal.returns
returns c = c.loop-n.invariant.0 ∙ sym (size_past _ _ _ _ (omega arith))
