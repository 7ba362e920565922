use Rattle.replication.proofs.ControlLaws.{none_free, some_free}
use Rattle.replication.proofs.control.Control.committed.Goals as goal

pub oldest_then-requires : goal.oldest_then-requires
oldest_then-requires c = c.requires.1

pub returns-then-next-eq0 : goal.returns-then-next-eq0
returns-then-next-eq0 c = none_free _ _ _ _ c.oldest_then.ensures c.if-next-eq0.true

pub returns-else-next-eq0 : goal.returns-else-next-eq0
returns-else-next-eq0 c = some_free _ _ _ _ c.oldest_then.ensures c.if-next-eq0.false
