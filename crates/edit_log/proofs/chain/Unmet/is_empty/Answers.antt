use Rattle.std.proofs.Common.{arith, refl}
use Rattle.edit_log.specs.Values.{all_met}
use Rattle.edit_log.proofs.MeetLaws.{marks_more, marks_end}
use Rattle.edit_log.proofs.chain.Unmet.is_empty.Goals as goal

pub loop-left-init : goal.loop-left-init
unfolding all_met
loop-left-init c = refl

pub loop-left-preserved : goal.loop-left-preserved
loop-left-preserved c = marks_more _ _ _ (omega arith) c.loop-left.invariant

pub returns : goal.returns
returns c = marks_end _ _ _ (omega arith) c.loop-left.invariant
