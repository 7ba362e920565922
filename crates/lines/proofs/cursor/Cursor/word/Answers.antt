use Rattle.lines.specs.Cursor.{past_word}
use Rattle.lines.proofs.cursor.Cursor.word.Goals as goal

pub returns-then-same : goal.returns-then-same
unfolding past_word
returns-then-same c = rw (c.skip_word.ensures, ← c.peek_word.ensures, ← c.same.ensures, c.if-same.true)

pub returns-else-same : goal.returns-else-same
unfolding past_word
returns-else-same c = rw (c.stop.ensures, ← c.peek_word.ensures, ← c.same.ensures, c.if-same.false)
