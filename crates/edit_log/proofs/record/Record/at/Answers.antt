use Rattle.edit_log.specs.Log.{next_operation, next_transaction}
use Rattle.edit_log.proofs.record.Record.at.Goals as goal

pub returns : goal.returns
unfolding next_operation next_transaction
returns c = let first = c.u16_at.ensures in let second = c.u16_at-2.ensures in (simp (first.0, second.0, c.record_at-bytes.ensures.0), (first.1, second.1))
