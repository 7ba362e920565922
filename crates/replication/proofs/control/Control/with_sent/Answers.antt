use mathlib.Core.Path.{refl}
use Rattle.replication.specs.Calls.{with_sent}
use Rattle.replication.proofs.control.Control.with_sent.Goals as goal

pub returns : goal.returns
unfolding with_sent
returns c = refl
