use Rattle.one_copy.specs.Replay.{title_agrees}
use Rattle.replication.proofs.OutputLaws.{title_found, title_other, one_within, one_shown}
use Rattle.carts.specs.Bytes.{zeros, pairwise}
use lib.Dec.{eqb}
use mathlib.Core.Bool.{◌&&◌}
use mathlib.Core.Path.{ap₂, ◌∙◌}
use Rattle.one_copy.proofs.replay.title_agrees.Goals as goal

pub returns-in_default : goal.returns-in_default
unfolding title_agrees zeros
returns-in_default c = let s = c.args in let q = c.search-searched.ensures.0 in
    ap₂ (λ n b. eqb n s.found && b) (c.found_count-count.ensures ∙ title_found s.copy.now s.title.now _ q)
    (c.same.ensures ∙ ap₂ (λ x y. pairwise eqb x y) (title_other s.copy.now s.title.now _ q c.in_default.not-One) c.part_of-place.ensures)

pub cart_at-requires : goal.cart_at-requires
cart_at-requires c = (c.requires.0, one_within c.args.copy.now c.args.title.now _ c.search-searched.ensures.0 _ c.in-One.is)

pub returns : goal.returns
unfolding title_agrees
returns c = let s = c.args in let q = c.search-searched.ensures.0 in
    ap₂ (λ n b. eqb n s.found && b) (c.found_count-count.ensures ∙ title_found s.copy.now s.title.now _ q)
    (c.same-2.ensures ∙ ap₂ (λ x y. pairwise eqb x y) (c.cart_at.ensures.0 ∙ one_shown s.copy.now s.title.now _ q _ c.in-One.is) c.part_of-place.ensures)
