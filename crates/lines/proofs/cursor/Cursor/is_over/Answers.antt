use Rattle.std.proofs.Common.{arith}
use Rattle.std.proofs.lemmas.Bool.Decides.{nat_tests}
use Rattle.lines.specs.Cursor.{is_over}
use Rattle.lines.proofs.cursor.Cursor.is_over.Goals as goal

pub returns-then-self-at : goal.returns-then-self-at
unfolding is_over
returns-then-self-at c = grind (arith, nat_tests)

pub returns-else-self-at : goal.returns-else-self-at
unfolding is_over
returns-else-self-at c = grind (arith, nat_tests)
