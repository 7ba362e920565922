use Rattle.std.proofs.Common.{◌≡◌, ◌≤◌, drop}
use Rattle.lines.specs.Text.{numeral}
use Rattle.lines.proofs.text.number_of.Given as goal

abbrev pub invariant-loop-digit : goal.invariant-loop-digit
invariant-loop-digit l = (l.value ≤ l.most) × (numeral 0 l.digits ≡ numeral l.value (drop l.digit-index l.digits))
