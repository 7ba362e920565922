use Rattle.lines.proofs.BuildLaws.{numbers_stored_law}
use Rattle.lines.proofs.build.put_numbers.Goals as goal

pub returns : goal.returns
returns c = rw (c.put_u16s.ensures, c.clear.ensures, c.requires.0) (numbers_stored_law c.args.numbers.now)
