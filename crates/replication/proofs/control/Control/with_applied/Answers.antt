use mathlib.Core.Path.{refl}
use Rattle.replication.specs.Calls.{with_applied}
use Rattle.replication.proofs.control.Control.with_applied.Goals as goal

pub returns : goal.returns
unfolding with_applied
returns c = refl
