use Rattle.std.proofs.Common.{arith, length-append}
use Rattle.words.proofs.PageLaws.{decimal_few}
use Rattle.words.proofs.page.Page.put_number.Goals as goal

pub returns-clause-fits : goal.returns-clause-fits
returns-clause-fits c = let few = decimal_few c.args.n (omega arith) in rw (c.put_decimal.ensures, length-append) (omega arith)
