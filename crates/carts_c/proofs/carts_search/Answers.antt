use Rattle.carts.specs.Bytes.{within}
use Rattle.carts_c.proofs.SearchLaws.{wrong_length, searched}
use Rattle.carts_c.proofs.carts_search.Goals as goal

pub returns-then-not-fits : goal.returns-then-not-fits
unfolding within
returns-then-not-fits c = let a = c.args in wrong_length a.copy.now a.title.now _ c.if-not-fits.true c.new.ensures

pub returns : goal.returns
unfolding within
returns c = let a = c.args in searched a.copy.now a.title.now _ _ c.if-not-fits.false c.from.ensures c.search.ensures
