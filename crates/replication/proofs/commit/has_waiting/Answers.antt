use mathlib.Core.Path.{◌∙◌, ap, sym}
use Rattle.replication.specs.Values.{session_value}
use Rattle.replication.proofs.SessionLaws.{waits_is}
use Rattle.replication.proofs.commit.has_waiting.Goals as goal

pub returns : goal.returns
returns c = sym (waits_is _ _ (c.from_bytes.ensures.0 ∙ ap session_value c.session_at.ensures.0) _ c.is_waiting.ensures)
