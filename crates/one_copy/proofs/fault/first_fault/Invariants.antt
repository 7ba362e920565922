use Rattle.std.proofs.Common.{◌≡◌, ◌-◌, None}
use Rattle.carts.specs.Refusal.{refusal_number}
use Rattle.one_copy.specs.Fault.{first_fault}
use Rattle.one_copy.proofs.fault.first_fault.Given as goal

abbrev pub invariant-loop-i : goal.invariant-loop-i
invariant-loop-i l = first_fault l.copy (refusal_number l.refusal) l.ops (l.i - 1) ≡ None
