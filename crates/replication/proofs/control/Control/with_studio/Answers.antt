use mathlib.Core.Path.{refl}
use Rattle.replication.specs.Calls.{with_studio}
use Rattle.replication.proofs.control.Control.with_studio.Goals as goal

pub returns : goal.returns
unfolding with_studio
returns c = refl
