use Rattle.std.proofs.Common.{[], ◌∷◌, eqb}
use Rattle.carts.specs.Bytes.{byte, u16, part, all_zero}
use Rattle.carts.specs.Cart.{held, has_audio}
use Rattle.carts.proofs.ScanLaws.{join_all_law}
use Rattle.old_edition.specs.OldFile.{has_old_title, old_held_form}
use Rattle.old_edition.proofs.OldCartLaws.{old_audio}
use Rattle.old_edition.proofs.old_cart.is_old_held.Goals as goal

pub returns : goal.returns
unfolding old_held_form held
returns c = let a = c.args in
    let s = a.old.now in
    rw (c.all_zero.ensures, c.u32_at-2.ensures, c.u32_at.ensures, c.is_old_title.ensures, c.u16_at.ensures.0, old_audio s)
    (join_all_law (eqb (byte s 0) 1) (eqb (u16 s 2) a.c ∷ has_old_title s ∷ has_audio s ∷ all_zero (part s 12 4) ∷ []))
