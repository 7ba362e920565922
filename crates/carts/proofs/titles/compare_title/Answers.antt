use Rattle.std.proofs.Common.{◌&&◌, length, eqb, ◌∙◌}
use native.Mathlib.Nat.{add-sub_cancel_left}
use Rattle.carts.proofs.LetterLaws.{cart_compared, cart_other}
use Rattle.carts.proofs.titles.compare_title.Goals as goal

pub returns-then-not-compares : goal.returns-then-not-compares
returns-then-not-compares c = let a = c.args in
    let compares = c.is_held-held.result && eqb c.byte_at.result (length a.title.now) in
    let r = cart_other a.title.now a.cart.now (rw (← c.is_held-held.ensures, ← c.byte_at.ensures.0) (c.if-not-compares.true)) in
    (c.new.ensures.0 ∙ r.0, c.new.ensures.1 ∙ r.1)

pub returns : goal.returns
returns c = let a = c.args in
    let r = cart_compared a.title.now a.cart.now (rw (← c.is_held-held.ensures, ← c.byte_at.ensures.0) (c.if-not-compares.false)) in
    let k = rw add-sub_cancel_left at c.compare_letters.ensures in
    (k.0 ∙ r.0, k.1 ∙ r.1)
