use Rattle.std.proofs.Common.{sym, ap, ◌∙◌}
use Rattle.edit_log.proofs.MeetLaws.{operation_in, size_of_out, sized_later}
use Rattle.edit_log.specs.declared.record.Record.{Record}
use Rattle.edit_log.proofs.chain.Unmet.meet_transaction.Goals as goal

pub returns-then-not-meet_operation : goal.returns-then-not-meet_operation
returns-then-not-meet_operation c = sym (size_of_out _ _ _ (sym c.meet_operation.ensures.0 ∙ c.if-not-meet_operation.true))

pub at-links-requires : goal.at-links-requires
at-links-requires c = (c.requires, operation_in _ _ _ (sym c.meet_operation.ensures.0 ∙ c.if-not-meet_operation.false))

pub returns : goal.returns
returns c =
    let is = c.if-not-meet_operation.false in
    let next = ap (λ (x : Record). x.next_operation) c.at-links.ensures.0 in
    sized_later _ _ _ (sym c.meet_operation.ensures.0 ∙ is) _ (c.meet_operation.ensures.1 is) _ _ next _ c.meet_later.ensures
