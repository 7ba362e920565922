use Rattle.std.proofs.Common.{◌≡◌, ◌*◌, ◌≤◌, length}
use Rattle.words.specs.Page.{shown_to}
use Rattle.words.proofs.shown.line.Given as goal

abbrev pub invariant-loop-b : goal.invariant-loop-b
invariant-loop-b l = record { text : l.page ≡ shown_to l.s l.b-index; fits : length l.page ≤ 4 * l.b-index }
