use Rattle.lines.proofs.ParseLaws.{edit_by_parts}
use Rattle.lines.proofs.parse.edit.Goals as goal

pub returns : goal.returns
returns c =
    let n = c.operations-n in
    edit_by_parts c.args.c.now c.mark.new.self n.new.c c.args.previews c.number-session.result n.result c.args.payload.now n.new.payload c.whole.result c.number-session.ensures.value (rw c.number-session.ensures.cursor at c.mark.ensures) n.ensures.0 (rw c.edit_call-call.ensures.0 at c.whole.ensures.0) c.whole.ensures.1
