-- make_van: what the delivery leaves, with the block as it is.
use Rattle.calls.proofs.make.make_van.Goals as goal

pub returns-clause-left : goal.returns-clause-left
returns-clause-left c = c.deliver.ensures c.args.lent.now.block.now
