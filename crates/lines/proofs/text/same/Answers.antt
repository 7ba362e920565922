use Rattle.lines.proofs.TextLaws.{same_pairs}
use Rattle.lines.proofs.text.same.Goals as goal

pub returns : goal.returns
returns c = rw c.eq.ensures (same_pairs c.args.a.now c.args.b.now)
