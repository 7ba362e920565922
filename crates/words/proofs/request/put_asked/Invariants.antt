use Rattle.std.proofs.Common.{◌≡◌, ◌++◌, ◌+◌, ◌*◌, ◌≤◌, length}
use Rattle.words.specs.Request.{asked_numbers}
use Rattle.words.proofs.request.put_asked.Given as goal

abbrev pub invariant-loop-i : goal.invariant-loop-i
invariant-loop-i l = record { text : l.page ≡ l.initial.page ++ asked_numbers l.request l.i; fits : length l.page ≤ length l.initial.page + 11 * l.i }
