use Rattle.replication.specs.Memory.{with_session, with_sequence}
use Rattle.replication.proofs.session.store.Goals as goal

pub returns : goal.returns
unfolding with_session with_sequence
returns c = c.fill.ensures
