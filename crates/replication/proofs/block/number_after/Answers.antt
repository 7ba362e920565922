use Rattle.std.proofs.Common.{rules}
use Rattle.replication.specs.Calls.{number_after}
use Rattle.replication.proofs.block.number_after.Goals as goal

pub returns-then-number-state : goal.returns-then-number-state
unfolding number_after
returns-then-number-state c = search rules

pub returns : goal.returns
unfolding number_after
returns c = search rules
