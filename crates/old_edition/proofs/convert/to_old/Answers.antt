use Rattle.old_edition.proofs.ConvertLaws.{to_passed, refused_by, accepted_by}
use Rattle.carts.proofs.RefusalLaws.{refuses}
use Rattle.std.proofs.lemmas.Result.{err_from_is_err_and}
use Rattle.old_edition.specs.Convert.{after, written, to_old}
use mathlib.Core.Path.{sym, ap, refl, ◌∙◌}
use Rattle.old_edition.proofs.convert.to_old.Goals as goal

pub returns-in_err-decide_to_old : goal.returns-in_err-decide_to_old
unfolding to_old
returns-in_err-decide_to_old c =
    let p = err_from_is_err_and c.from_residual.result c.from_residual.ensures.1 in
    rw (p.1, p.2) (refused_by _ _ _ _ c.in_err-decide_to_old.ensures (refuses _))

pub put_file-requires : goal.put_file-requires
put_file-requires c = let k = to_passed _ _ (sym c.in_ok-decide_to_old.ensures) in (k.room, k.size)

pub returns : goal.returns
unfolding to_old
returns c = ap (after (written 6150)) c.put_file.ensures ∙ accepted_by _ _ _ _ c.in_ok-decide_to_old.ensures refl
