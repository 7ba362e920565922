use Rattle.std.proofs.Common.{◌≤◌, ◌-◌}
use Rattle.lines.specs.Parse.{operations_at, more_operations}
use Rattle.lines.proofs.ParseLaws.{Passed}
use Rattle.lines.proofs.parse.operations.Given as goal

abbrev pub invariant-loop-n : goal.invariant-loop-n
invariant-loop-n l = (1 ≤ l.n) × Passed (operations_at l.fn.c) 80 l.n l.fn.payload l.payload (more_operations (8 - l.n) l.c)
