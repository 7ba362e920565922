use Rattle.old_edition.proofs.ConvertLaws.{from_passed, file_length, refused_by, accepted_by}
use lib.ListN.{length, length-drop}
use Rattle.std.proofs.lemmas.Slice.{between_to_end}
use Rattle.carts.proofs.RefusalLaws.{refuses}
use Rattle.std.proofs.lemmas.Result.{err_from_is_err_and}
use Rattle.old_edition.specs.Convert.{after, written, widened, each_cart, copy_of, from_old_rows, from_old}
use Prim.Native.Nat.{ℕ}
use mathlib.Core.List.{List}
use mathlib.Core.Path.{◌≡◌, sym, ap, refl, ◌∙◌}
use Rattle.carts.specs.Rows.{stopped}
use native.Mathlib.Omega.{arith}
use Rattle.old_edition.proofs.convert.from_old.Goals as goal

pub returns-in_err-decide_from_old : goal.returns-in_err-decide_from_old
unfolding from_old
returns-in_err-decide_from_old c =
    let p = err_from_is_err_and c.from_residual.result c.from_residual.ensures.1 in
    rw (p.1, p.2) (refused_by _ _ _ _ c.in_err-decide_from_old.ensures (refuses _))

-- a file that is not refused is whole
whole : (file out : List ℕ) → 0 ≡ stopped (from_old_rows file (length out)) → length file ≡ 6150
whole file out e = file_length file (from_passed file out (sym e)).form

pub slice_bounds-put_copy-count : goal.slice_bounds-put_copy-count
slice_bounds-put_copy-count c = let l = whole _ _ c.in_ok-decide_from_old.ensures in omega arith

pub slice_bounds-put_copy-start : goal.slice_bounds-put_copy-start
slice_bounds-put_copy-start c = let l = whole _ _ c.in_ok-decide_from_old.ensures in omega arith

pub put_copy-requires : goal.put_copy-requires
put_copy-requires c =
    let l = whole _ _ c.in_ok-decide_from_old.ensures in (
      (from_passed _ _ (sym c.in_ok-decide_from_old.ensures)).room,
      ap length (between_to_end c.args.file.now 6 _ (omega arith)) ∙ length-drop 6 c.args.file.now ∙ omega arith,
    )

pub returns : goal.returns
unfolding from_old copy_of
returns c =
    ap (after (written 10240)) (c.put_copy.ensures ∙ ap (each_cart widened 48 128) (between_to_end c.args.file.now 6 _ (omega arith)))
    ∙ accepted_by _ _ _ _ c.in_ok-decide_from_old.ensures refl
