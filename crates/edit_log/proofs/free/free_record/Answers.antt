use Rattle.carts.specs.Bytes.{zeros}
use Rattle.edit_log.specs.Log.{with_record}
use Rattle.edit_log.proofs.free.free_record.Goals as goal

pub returns : goal.returns
unfolding with_record zeros
returns c = c.fill.ensures
