use Rattle.lines.proofs.ParseLaws.{operation_by_kind}
use Rattle.lines.proofs.parse.operation.Goals as goal

pub returns-in-Some : goal.returns-in-Some
returns-in-Some c = rw (operation_by_kind, ← c.peek_word.ensures, ← c.kind_of.ensures, c.in-Some.is, ← c.skip_word.ensures) c.fields.ensures

pub returns-in-None : goal.returns-in-None
returns-in-None c = rw (operation_by_kind, ← c.peek_word.ensures, ← c.kind_of.ensures, c.in-None.is, c.clear.ensures, c.requires, c.stop.ensures)
