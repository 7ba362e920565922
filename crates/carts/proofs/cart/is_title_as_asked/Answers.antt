use Rattle.std.proofs.Common.{sym}
use Rattle.carts.specs.Bytes.{byte, part, within}
use Rattle.carts.specs.Cart.{has_title, no_title}
use Rattle.carts.proofs.CartLaws.{title_asked}
use Rattle.carts.proofs.cart.is_title_as_asked.Goals as goal

pub returns : goal.returns
unfolding has_title no_title within
returns c = let a = c.args in
    rw (c.is_title_in.ensures, c.is_as_asked.ensures) (sym (title_asked a.asked (byte a.s.now 1) (part a.s.now 16 64)))
