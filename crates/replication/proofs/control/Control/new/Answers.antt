use mathlib.Core.Path.{refl}
use Rattle.replication.specs.Calls.{control_of}
use Rattle.carts.specs.Bytes.{zeros}
use Rattle.replication.proofs.control.Control.new.Goals as goal

pub returns : goal.returns
unfolding control_of zeros
returns c = refl
