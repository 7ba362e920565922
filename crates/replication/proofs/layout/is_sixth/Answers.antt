use borrow.Author.Tests.{eq-eqb, ne_eqb}
use Rattle.replication.specs.Layout.{sixth_form}
use Rattle.replication.proofs.layout.is_sixth.Goals as goal

pub returns-then-retired-eq0 : goal.returns-then-retired-eq0
unfolding sixth_form
returns-then-retired-eq0 c = rw (eq-eqb _ 0 c.if-retired-eq0.true) c.all_zero.ensures

pub returns : goal.returns
unfolding sixth_form
returns c = rw (ne_eqb _ 0 c.if-retired-eq0.false) c.is_copy.ensures
