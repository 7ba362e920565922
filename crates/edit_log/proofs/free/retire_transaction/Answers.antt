use Rattle.edit_log.proofs.FreeLaws.{retire_only, retire_joined}
use Rattle.edit_log.proofs.free.retire_transaction.Goals as goal

pub returns-then-last-ne0 : goal.returns-then-last-ne0
returns-then-last-ne0 c = let f = c.free_all-freed.ensures in (retire_joined _ _ _ c.if-last-ne0.true _ f.0 _ c.put.ensures, f.1)

pub returns-else-last-ne0 : goal.returns-else-last-ne0
returns-else-last-ne0 c = let f = c.free_all-freed.ensures in (retire_only _ _ _ c.if-last-ne0.false _ f.0, f.1)
