use Rattle.replication.proofs.ControlLaws.{oldest_none, oldest_some}
use Rattle.replication.proofs.control.Control.oldest_then.Goals as goal

pub returns-then-self : goal.returns-then-self
returns-then-self c = oldest_none c.args.self c.if-self.true

pub returns : goal.returns
returns c = oldest_some c.args.self c.requires c.if-self.false
