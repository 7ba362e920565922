use Rattle.std.proofs.Common.{arith}
use Rattle.edit_log.proofs.UpFromLaws.{next_last, next_more}
use Rattle.edit_log.proofs.fresh.next_free.Goals as goal

pub returns-then-r-eq-COUNT : goal.returns-then-r-eq-COUNT
returns-then-r-eq-COUNT c = (next_last _ c.if-r-eq-COUNT.true, omega arith)

pub returns-else-r-eq-COUNT : goal.returns-else-r-eq-COUNT
returns-else-r-eq-COUNT c = (next_more _ c.requires c.if-r-eq-COUNT.false, omega arith)
