use Rattle.lines.specs.Cursor.{ended_at}
use Rattle.lines.proofs.cursor.Cursor.end.Goals as goal

pub returns-then-not-is_over : goal.returns-then-not-is_over
unfolding ended_at
returns-then-not-is_over c = rw (c.stop.ensures, ← c.is_over.ensures, c.if-not-is_over.true)

pub returns-else-not-is_over : goal.returns-else-not-is_over
unfolding ended_at
returns-else-not-is_over c = rw (← c.is_over.ensures, c.if-not-is_over.false)
