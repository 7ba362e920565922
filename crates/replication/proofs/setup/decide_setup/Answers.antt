use mathlib.Core.Path.{sym, ◌∙◌}
use borrow.Author.Tests.{ne_eqb}
use Rattle.replication.proofs.SetupLaws.{setup_lengths, setup_studios, setup_passes}
use Rattle.replication.proofs.setup.decide_setup.Goals as goal

pub returns-then-not-are_lengths : goal.returns-then-not-are_lengths
returns-then-not-are_lengths c = setup_lengths _ _ _ (sym c.are_lengths.ensures ∙ c.if-not-are_lengths.true)

pub returns-then-not-is_within : goal.returns-then-not-is_within
returns-then-not-is_within c = setup_studios _ _ _ (sym c.are_lengths.ensures ∙ c.if-not-are_lengths.false) 0 (sym c.is_within.ensures ∙ c.if-not-is_within.true)

pub returns-then-places : goal.returns-then-places
returns-then-places c = setup_studios _ _ _ (sym c.are_lengths.ensures ∙ c.if-not-are_lengths.false) 1 (ne_eqb _ _ c.if-places.true)

pub returns-then-not-are_studios : goal.returns-then-not-are_studios
returns-then-not-are_studios c = setup_studios _ _ _ (sym c.are_lengths.ensures ∙ c.if-not-are_lengths.false) 2 (sym c.are_studios.ensures ∙ c.if-not-are_studios.true)

pub returns : goal.returns
returns c =
    setup_passes _ _ _ (sym c.are_lengths.ensures ∙ c.if-not-are_lengths.false) (sym c.is_within.ensures ∙ c.if-not-is_within.false) c.if-places.false
    (sym c.are_studios.ensures ∙ c.if-not-are_studios.false)
