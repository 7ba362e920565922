use Rattle.std.proofs.Common.{arith, ap, ◌∙◌}
use Rattle.std.proofs.lemmas.Slice.{between_to_end}
use Rattle.carts.specs.Bytes.{each_part}
use Rattle.old_edition.specs.OldFile.{old_cart_form}
use Rattle.old_edition.proofs.ConvertLaws.{file_short, file_whole}
use Rattle.old_edition.proofs.file.is_file.Goals as goal

pub returns-then-file-ne-SIZE : goal.returns-then-file-ne-SIZE
returns-then-file-ne-SIZE c = file_short _ c.if-file-ne-SIZE.true

pub returns : goal.returns
returns c =
    let file = c.args.file.now in
    file_whole file _ _ c.if-file-ne-SIZE.false c.has_mark.ensures
    (c.are_old_carts.ensures ∙ ap (each_part old_cart_form 48 128 1) (between_to_end file 6 _ (omega arith)))
