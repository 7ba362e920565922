use Rattle.old_edition.proofs.ConvertLaws.{form_fails, title_row}
use Rattle.carts.proofs.RowLaws.{row_stops, row_passes}
use Rattle.carts.specs.Rows.{stopped}
use Rattle.old_edition.specs.Convert.{to_old_rows}
use borrow.Author.Tests.{ne_eqb}
use mathlib.Core.List.{[]}
use mathlib.Core.Path.{sym, ◌∙◌}
use Rattle.old_edition.proofs.convert.decide_to_old.Goals as goal

pub returns-then-copy-ne-COPY_SIZE : goal.returns-then-copy-ne-COPY_SIZE
unfolding to_old_rows
returns-then-copy-ne-COPY_SIZE c = form_fails 0 _ _ (ne_eqb _ _ c.if-copy-ne-COPY_SIZE.true)

pub returns-then-not-is_copy : goal.returns-then-not-is_copy
unfolding to_old_rows
returns-then-not-is_copy c = form_fails 1 _ _ (sym c.is_copy.ensures ∙ c.if-not-is_copy.true)

pub returns-then-room-ne-SIZE : goal.returns-then-room-ne-SIZE
unfolding to_old_rows
returns-then-room-ne-SIZE c = form_fails 2 _ _ (ne_eqb _ _ c.if-room-ne-SIZE.true)

pub returns-then-has_long_title : goal.returns-then-has_long_title
returns-then-has_long_title c =
    row_stops 23 _ [] (sym c.has_long_title.ensures ∙ c.if-has_long_title.true)
    ∙ sym (title_row _ _ c.if-copy-ne-COPY_SIZE.false (sym c.is_copy.ensures ∙ c.if-not-is_copy.false) c.if-room-ne-SIZE.false)

pub returns : goal.returns
unfolding stopped
returns c =
    sym (title_row _ _ c.if-copy-ne-COPY_SIZE.false (sym c.is_copy.ensures ∙ c.if-not-is_copy.false) c.if-room-ne-SIZE.false
    ∙ row_passes 23 _ [] (sym c.has_long_title.ensures ∙ c.if-has_long_title.false))
