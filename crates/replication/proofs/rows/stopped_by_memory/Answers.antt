use mathlib.Core.Path.{sym, ◌∙◌}
use Rattle.replication.proofs.RowLaws.{lengths_wrong, layout_wrong, memory_right, lengths_are}
use Rattle.replication.proofs.rows.stopped_by_memory.Goals as goal

pub returns-then-not-are_lengths : goal.returns-then-not-are_lengths
returns-then-not-are_lengths c = lengths_wrong _ _ (sym c.are_lengths.ensures ∙ c.if-not-are_lengths.true)

pub is_layout-requires : goal.is_layout-requires
is_layout-requires c = lengths_are _ (sym c.are_lengths.ensures ∙ c.if-not-are_lengths.false)

pub returns-then-not-is_layout : goal.returns-then-not-is_layout
returns-then-not-is_layout c = layout_wrong _ _ (sym c.are_lengths.ensures ∙ c.if-not-are_lengths.false) (sym c.is_layout.ensures ∙ c.if-not-is_layout.true)

pub returns : goal.returns
returns c = memory_right _ _ (sym c.are_lengths.ensures ∙ c.if-not-are_lengths.false) (sym c.is_layout.ensures ∙ c.if-not-is_layout.false)
