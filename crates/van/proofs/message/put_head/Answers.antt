use Rattle.van.proofs.MessageLaws.{head_put}
use Rattle.van.proofs.message.put_head.Goals as goal

pub returns : goal.returns
returns c = head_put c.args.output.now _ _ _ c.requires.0 c.put_u16.ensures
