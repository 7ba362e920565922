use Rattle.std.proofs.Common.{arith, ◌∙◌}
use Rattle.lines.proofs.ParseLaws.{setup_by_parts}
use lib.Seq.{length-take-le}
use Rattle.lines.proofs.parse.setup.Goals as goal

pub returns : goal.returns
returns c =
    let p = c.args.payload.now in
    let put = c.put_studios in
    let n = c.numbers-n in
    rw put.ensures (setup_by_parts c.args.c.now c.mark.new.self n.new.c c.number-studios.result _ n.new.out n.result p c.whole.result c.number-studios.ensures.value (rw c.number-studios.ensures.cursor at c.mark.ensures) n.ensures.0 (rw put.ensures at (put.auto.places ∙ length-take-le 16 p (omega arith))) c.whole.ensures.0 c.whole.ensures.1)
