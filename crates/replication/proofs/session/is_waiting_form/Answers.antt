use borrow.Author.Tests.{eq-eqb, ne_eqb}
use Rattle.replication.specs.Layout.{waiting_form}
use Rattle.carts.specs.Cart.{no_title}
use Rattle.replication.proofs.session.is_waiting_form.Goals as goal

pub returns-then-x-eq0 : goal.returns-then-x-eq0
unfolding waiting_form no_title
returns-then-x-eq0 c = simp (c.is_title_as_asked.ensures, eq-eqb _ _ c.if-x-eq0.true)

pub returns : goal.returns
unfolding waiting_form
returns c = simp (c.is_read.ensures, ne_eqb _ _ c.if-x-eq0.false)
