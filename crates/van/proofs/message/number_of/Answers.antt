use Rattle.van.specs.Message.{message_number}
use Rattle.van.proofs.message.number_of.Goals as goal

pub returns : goal.returns
unfolding message_number
returns c = c.u16_at.ensures
