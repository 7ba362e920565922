use mathlib.Core.Path.{sym, ◌∙◌}
use Rattle.replication.specs.Rows.{stopped, studio_row}
use Rattle.replication.proofs.rows.studio_row.Goals as goal

pub returns-then-not-is_within : goal.returns-then-not-is_within
unfolding stopped studio_row
returns-then-not-is_within c = rw (sym c.is_within.ensures ∙ c.if-not-is_within.true)

pub returns : goal.returns
unfolding stopped studio_row
returns c = rw (sym c.is_within.ensures ∙ c.if-not-is_within.false)
