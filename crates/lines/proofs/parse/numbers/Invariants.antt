use Rattle.std.proofs.Common.{◌-◌, length}
use Rattle.lines.specs.Parse.{numbers_at}
use Rattle.lines.proofs.ParseLaws.{Passed}
use Rattle.lines.proofs.parse.numbers.Given as goal

abbrev pub invariant-loop-n : goal.invariant-loop-n
invariant-loop-n l = Passed (numbers_at (length l.fn.out) l.fn.c l.most) 1 l.n l.fn.out l.out (numbers_at (length l.fn.out - l.n) l.c l.most)
