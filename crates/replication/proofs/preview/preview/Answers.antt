use mathlib.Core.Path.{refl}
use native.Mathlib.Omega.{arith}
use Rattle.carts.proofs.RefusalLaws.{refuses}
use Rattle.replication.proofs.CommitLaws.{commit_known}
use Rattle.replication.proofs.PreviewLaws.{preview_refused, preview_accepted}
use Rattle.replication.proofs.preview.preview.Goals as goal

pub returns-in-Err : goal.returns-in-Err
returns-in-Err c = preview_refused _ _ _ _ _ c.in-Err.ensures (refuses _)

pub overflow_add-n : goal.overflow_add-n
overflow_add-n c = let k = (commit_known _ _ _ _ _ c.in_default.ensures refl).few in omega arith

pub returns : goal.returns
returns c = preview_accepted _ _ _ _ _ c.in_default.ensures refl
