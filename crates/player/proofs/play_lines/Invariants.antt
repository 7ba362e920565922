use Rattle.std.proofs.Common.{◌≤◌}
use Rattle.player.proofs.play_lines.Given as goal

abbrev pub invariant-loop-line : goal.invariant-loop-line
invariant-loop-line l =
    (goal.iterator-loop-line).can_next l.line-iterator ×
    (goal.iterator-loop-line).is_finite l.line-iterator ×
    (l.player.history.entries ≤ 1024)
