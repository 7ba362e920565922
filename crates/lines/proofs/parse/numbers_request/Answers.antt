use Rattle.lines.proofs.ParseLaws.{numbers_request}
use Rattle.lines.proofs.parse.numbers_request.Goals as goal

pub returns : goal.returns
returns c = let n = c.numbers-n in rw c.put_numbers.ensures (numbers_request c.args.c.now n.new.c _ n.new.out n.result n.ensures.0)
