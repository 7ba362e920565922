use Rattle.std.proofs.Common.{◌≤◌, length}
use Rattle.carts.proofs.LetterLaws.{SameTo}
use Rattle.carts.proofs.titles.compare_letters.Given as goal

abbrev pub invariant-loop-i : goal.invariant-loop-i
invariant-loop-i l = (l.i ≤ length l.a) × SameTo l.i l.a l.b
