use Rattle.old_edition.specs.OldFile.{has_old_title}
use Rattle.old_edition.proofs.OldCartLaws.{old_title}
use Rattle.old_edition.proofs.old_cart.is_old_title.Goals as goal

pub returns : goal.returns
unfolding has_old_title
returns c = old_title _ _ _ c.is_title_in.ensures
