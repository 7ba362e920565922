use Rattle.std.proofs.Common.{arith, refl}
use Rattle.edit_log.specs.Values.{met}
use Rattle.edit_log.proofs.BoolLaws.{never}
use Rattle.edit_log.proofs.MeetLaws.{in_log, meet_out, meet_is}
use Rattle.edit_log.proofs.chain.Unmet.meet.Goals as goal

pub returns-then-not-is_within : goal.returns-then-not-is_within
returns-then-not-is_within c = (meet_out _ _ _ c.is_within.ensures c.if-not-is_within.true, λ e. never e)

pub overflow_sub-at : goal.overflow_sub-at
overflow_sub-at c = (in_log _ _ c.is_within.ensures c.if-not-is_within.false).0

pub bounds-self-at : goal.bounds-self-at
bounds-self-at c = let i = in_log _ _ c.is_within.ensures c.if-not-is_within.false in omega arith

pub bounds-self-at-2 : goal.bounds-self-at-2
bounds-self-at-2 c = let i = in_log _ _ c.is_within.ensures c.if-not-is_within.false in omega arith

pub returns : goal.returns
unfolding met
returns c = (meet_is _ _ _ c.is_within.ensures c.if-not-is_within.false, λ e. refl)
