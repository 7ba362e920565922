use Rattle.old_edition.proofs.ConvertLaws.{form_fails, passes_from}
use Rattle.old_edition.specs.Convert.{from_old_rows}
use borrow.Author.Tests.{ne_eqb}
use mathlib.Core.Path.{sym, ◌∙◌}
use Rattle.old_edition.proofs.convert.decide_from_old.Goals as goal

pub returns-then-not-is_file : goal.returns-then-not-is_file
unfolding from_old_rows
returns-then-not-is_file c = form_fails 0 _ _ (sym c.is_file.ensures ∙ c.if-not-is_file.true)

pub returns-then-room-ne-COPY_SIZE : goal.returns-then-room-ne-COPY_SIZE
unfolding from_old_rows
returns-then-room-ne-COPY_SIZE c = form_fails 1 _ _ (ne_eqb _ _ c.if-room-ne-COPY_SIZE.true)

pub returns : goal.returns
returns c = passes_from _ _ (sym c.is_file.ensures ∙ c.if-not-is_file.false) c.if-room-ne-COPY_SIZE.false
