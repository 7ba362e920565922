use Rattle.replication.proofs.LevelLaws.{level_other, level_here}
use Rattle.replication.proofs.load.is_level.Goals as goal

pub returns-then-applied-n : goal.returns-then-applied-n
returns-then-applied-n c = level_other _ _ _ _ _ c.if-applied-n.true

pub returns : goal.returns
returns c = level_here _ _ _ _ _ c.if-applied-n.false _ _ c.are_equal.ensures c.copy_at.ensures.0
