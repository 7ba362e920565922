use Rattle.replication.proofs.walk.transaction_after.Goals as goal

pub walk_on-requires : goal.walk_on-requires
walk_on-requires c = (c.requires.kept.0, c.requires.reached)

pub returns : goal.returns
returns c = c.walk_on.ensures
