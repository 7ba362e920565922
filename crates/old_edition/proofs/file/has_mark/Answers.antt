use Rattle.std.proofs.Common.{◌∙◌}
use Rattle.old_edition.proofs.ConvertLaws.{begins_with}
use Rattle.old_edition.specs.OldFile.{mark}
use Rattle.old_edition.proofs.file.has_mark.Goals as goal

pub returns : goal.returns
returns c = c.starts_with.ensures.value ∙ begins_with mark _
