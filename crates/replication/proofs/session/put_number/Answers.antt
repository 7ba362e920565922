use Rattle.replication.specs.Memory.{session_at, with_session, with_sequence}
use Rattle.replication.proofs.session.put_number.Goals as goal

pub returns : goal.returns
unfolding session_at with_session with_sequence
returns c = c.put.ensures
