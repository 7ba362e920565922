use mathlib.Core.Path.{ap, ◌∙◌}
use mathlib.Core.List.{List, ◌++◌}
use Prim.Native.Nat.{ℕ}
use lib.ListN.{drop}
use lib.Seq.{length-take-le}
use Rattle.carts.specs.Bytes.{zeros}
use Rattle.replication.proofs.OutputLaws.{title_found, title_other, one_found, one_shown, one_within}
use Rattle.replication.proofs.output.show_title.Goals as goal

pub returns-in_default : goal.returns-in_default
returns-in_default c = let found = c.search-found.ensures.0 in
    let out = c.args.output.now in (
      c.found_count.ensures ∙ title_found c.args.copy.now c.args.title.now _ found,
      ap (λ (ys : List ℕ). ys ++ drop 80 out) (c.clear.ensures ∙ ap zeros (length-take-le 80 out c.requires.1.1) ∙ title_other c.args.copy.now c.args.title.now _ found c.in_default.not-One),
    )

pub cart_at-cart-requires : goal.cart_at-cart-requires
cart_at-cart-requires c = (c.requires.0, one_within c.args.copy.now c.args.title.now _ c.search-found.ensures.0 _ c.in-One.is)

pub returns : goal.returns
returns c = let found = c.search-found.ensures.0 in
    let one = c.in-One.is in
    let out = c.args.output.now in (
      one_found c.args.copy.now c.args.title.now _ found _ one,
      ap (λ (ys : List ℕ). ys ++ drop 80 out) (c.copy_from_slice.ensures.after ∙ c.cart_at-cart.ensures.0 ∙ one_shown c.args.copy.now c.args.title.now _ found _ one),
    )
