use Rattle.std.proofs.Common.{◌++◌, length, ap, ◌∙◌}
use Rattle.old_edition.specs.OldFile.{mark}
use Rattle.old_edition.specs.Convert.{file_of}
use Rattle.old_edition.proofs.EachCartLaws.{put_ends}
use Rattle.old_edition.proofs.file.put_file.Goals as goal

pub returns : goal.returns
unfolding file_of
returns c =
    put_ends c.copy_from_slice.new.self _ c.put_carts.new.carts 6 (ap length c.copy_from_slice.ensures.after)
    ∙ ap (λ first. first ++ c.put_carts.new.carts) c.copy_from_slice.ensures.after
    ∙ ap (λ carts. mark ++ carts) c.put_carts.ensures
