use Rattle.replication.proofs.ControlLaws.{first_none, first_some}
use Rattle.replication.proofs.control.Control.after_retire.Goals as goal

pub returns-then-self-eq0 : goal.returns-then-self-eq0
returns-then-self-eq0 c = first_none c.args.self _ _ _ _ c.if-self-eq0.true

pub returns-else-self-eq0 : goal.returns-else-self-eq0
returns-else-self-eq0 c = first_some c.args.self _ _ _ _ c.if-self-eq0.false
