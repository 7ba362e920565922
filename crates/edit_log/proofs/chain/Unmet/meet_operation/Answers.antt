use Rattle.std.proofs.Common.{sym, ap, ◌∙◌}
use Rattle.carts.specs.Operation.{operation_fields}
use Rattle.edit_log.proofs.BoolLaws.{never}
use Rattle.edit_log.proofs.MeetLaws.{left_in, operation_out, operation_is}
use Rattle.edit_log.proofs.chain.Unmet.meet_operation.Goals as goal

pub returns-then-not-meet : goal.returns-then-not-meet
returns-then-not-meet c = (operation_out _ _ _ _ c.meet.ensures.0 c.if-not-meet.true, λ e. never e)

pub record_at-requires : goal.record_at-requires
record_at-requires c = (c.requires, left_in _ _ (sym c.meet.ensures.0 ∙ c.if-not-meet.false))

pub returns : goal.returns
returns c =
    let fields = c.has_fields.ensures ∙ ap operation_fields c.record_at.ensures.0 in
    (fields ∙ operation_is _ _ _ _ c.meet.ensures.0 c.if-not-meet.false, λ e. c.meet.ensures.1 c.if-not-meet.false)
