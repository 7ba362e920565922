use Rattle.std.proofs.Common.{◌≡◌, ◌≤◌, max, length}
use Rattle.lines.specs.Text.{run_end}
use Rattle.lines.proofs.text.run_end.Given as goal

abbrev pub invariant-loop-i : goal.invariant-loop-i
invariant-loop-i l = (l.i ≤ max l.at (length l.s)) × (run_end l.s l.at l.class ≡ run_end l.s l.i l.class)
