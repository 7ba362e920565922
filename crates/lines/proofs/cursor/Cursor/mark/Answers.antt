use Rattle.std.proofs.Common.{arith}
use Rattle.std.proofs.lemmas.Bool.Decides.{nat_tests}
use Rattle.lines.specs.Cursor.{past_mark}
use Rattle.lines.proofs.cursor.Cursor.mark.Goals as goal

pub returns-then-self-at : goal.returns-then-self-at
unfolding past_mark
returns-then-self-at c = grind (arith, nat_tests)

pub returns-else-at-self : goal.returns-else-at-self
unfolding past_mark
returns-else-at-self c = grind (arith, nat_tests)
