use borrow.Author.Tests.{le-leb, lt-leb}
use Rattle.replication.specs.Layout.{replica_form}
use Rattle.replication.proofs.layout.is_replica.Goals as goal

pub returns-then-i-studios : goal.returns-then-i-studios
unfolding replica_form
returns-then-i-studios c = simp (c.is_copy.ensures, le-leb _ _ c.if-i-studios.true)

pub returns : goal.returns
unfolding replica_form
returns c = simp (c.all_zero.ensures, lt-leb _ _ c.if-i-studios.false)
