use mathlib.Core.Path.{refl}
use Rattle.replication.specs.Memory.{studio_of}
use Rattle.replication.proofs.control.Control.studio_of.Goals as goal

pub returns : goal.returns
unfolding studio_of
returns c = refl
