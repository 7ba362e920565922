use Rattle.std.proofs.Common.{[], ◌∷◌, eqb}
use Rattle.carts.specs.Bytes.{u16, part, all_zero}
use Rattle.carts.specs.Cart.{held_form, held, has_title, has_audio}
use Rattle.carts.proofs.ScanLaws.{join_all_law}
use Rattle.carts.proofs.cart.is_held_cart.Goals as goal

pub returns : goal.returns
unfolding held_form
returns c = let a = c.args in
    let s = a.s.now in
    rw (
      c.all_zero.ensures,
      c.is_audio_as_asked.ensures,
      c.is_title_as_asked.ensures,
      c.u16_at.ensures.0,
      c.is_held.ensures,
    ) (join_all_law (held s) (eqb (u16 s 2) a.c ∷ has_title s ∷ has_audio s ∷ all_zero (part s 12 4) ∷ []))
