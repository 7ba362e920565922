use mathlib.Core.Path.{refl}
use Rattle.carts.proofs.RefusalLaws.{refuses}
use Rattle.replication.proofs.LoadLaws.{load_refused, load_accepted}
use Rattle.replication.proofs.load.load.Goals as goal

pub returns-in-Err : goal.returns-in-Err
returns-in-Err c = load_refused _ _ _ c.in-Err.ensures (refuses _)

pub returns : goal.returns
returns c = load_accepted _ _ _ c.in_default.ensures refl
