use Rattle.std.proofs.Common.{arith, ◌∙◌}
use Rattle.lines.proofs.ParseLaws.{read_by_parts}
use lib.Seq.{length-take-le}
use Rattle.lines.proofs.parse.read.Goals as goal

pub returns : goal.returns
returns c =
    let p = c.args.payload.now in
    let one = c.request in
    read_by_parts c.args.c.now c.mark.new.self one.new.c c.args.forwards c.number-session.result p one.new.request c.whole.result c.number-session.ensures.value (rw c.number-session.ensures.cursor at c.mark.ensures) one.ensures (one.auto.request ∙ length-take-le 80 p (omega arith)) c.whole.ensures.0 c.whole.ensures.1
