use mathlib.Core.Path.{refl}
use Rattle.replication.specs.Log.{log_count}
use Rattle.replication.proofs.control.Control.log_count.Goals as goal

-- src/control.rt:75:5
pub returns : goal.returns
unfolding log_count
returns c = refl
