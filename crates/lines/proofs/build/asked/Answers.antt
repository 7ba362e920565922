use Rattle.carts.specs.Bytes.{u16}
use Rattle.lines.proofs.build.asked.Goals as goal

pub returns : goal.returns
unfolding u16
returns c = cc
