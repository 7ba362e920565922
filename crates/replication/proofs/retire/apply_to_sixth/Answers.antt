use mathlib.Core.Path.{ap}
use Rattle.carts.specs.Bytes.{over}
use Rattle.replication.specs.Memory.{copy_at, with_copy}
use Rattle.replication.proofs.retire.apply_to_sixth.Goals as goal

pub returns : goal.returns
unfolding copy_at with_copy
returns c = ap (over c.args.library.now 51200 10240) c.apply_transaction.ensures
