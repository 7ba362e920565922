use Rattle.van.proofs.ReceiveLaws.{not_ahead, ahead_by}
use Rattle.van.proofs.receive.is_ahead.Goals as goal

pub returns-then-number-applied : goal.returns-then-number-applied
returns-then-number-applied c = not_ahead _ _ c.if-number-applied.true

pub returns : goal.returns
returns c = ahead_by _ _ c.if-number-applied.false
