use borrow.Author.Tests.{eq-eqb, ne_eqb}
use mathlib.Core.Bool.{and-true}
use Rattle.replication.specs.Request.{request_form}
use Rattle.carts.specs.Bytes.{all}
use Rattle.replication.proofs.session.is_request.Goals as goal

pub returns-then-x-ne-SIZE : goal.returns-then-x-ne-SIZE
unfolding request_form all
returns-then-x-ne-SIZE c = simp (ne_eqb _ _ c.if-x-ne-SIZE.true)

pub returns : goal.returns
unfolding request_form all
returns c = simp (c.all_zero.ensures, c.is_read.ensures, eq-eqb _ _ c.if-x-ne-SIZE.false, and-true)
