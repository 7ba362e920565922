use Rattle.std.proofs.Common.{◌∙◌}
use Rattle.old_edition.proofs.ConvertLaws.{begins_with}
use Rattle.old_edition.specs.OldFile.{mark}
use Rattle.convert.specs.Outcome.{marked}
use Rattle.convert.proofs.outcome.is_marked.Goals as goal

pub returns : goal.returns
unfolding marked
returns c = c.starts_with.ensures.value ∙ begins_with mark _
