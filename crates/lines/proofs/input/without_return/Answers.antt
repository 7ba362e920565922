use Rattle.lines.proofs.InputLaws.{returned}
use Rattle.lines.proofs.input.without_return.Goals as goal

pub returns : goal.returns
returns c = rw c.unwrap_or.ensures (returned c.args.s c.strip_suffix.result c.strip_suffix.ensures.cases)
