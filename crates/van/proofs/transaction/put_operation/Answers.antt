use Rattle.van.proofs.TransactionLaws.{put_handed}
use Rattle.van.proofs.transaction.put_operation.Goals as goal

pub returns : goal.returns
returns c = put_handed _ _ _ c.requires.1 c.copy_all.ensures c.clear.ensures
