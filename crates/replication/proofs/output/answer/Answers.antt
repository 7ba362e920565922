use Rattle.replication.proofs.OutputLaws.{value_waiting, shown_there}
use Rattle.replication.proofs.output.answer.Goals as goal

pub show-requires-clause-copy : goal.show-requires-clause-copy
show-requires-clause-copy c = (c.copy_at.ensures.1, (c.requires.library.1.1, value_waiting _ _ c.from_bytes-waiting.ensures.0))

pub returns : goal.returns
returns c = shown_there _ _ _ _ _ _ c.copy_at.ensures.0 c.show.ensures
