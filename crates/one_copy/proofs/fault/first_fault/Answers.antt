use Rattle.std.proofs.Common.{sym, arith}
use Rattle.one_copy.proofs.FaultLaws.{found}
use Rattle.one_copy.proofs.fault.first_fault.Goals as goal

pub returns-then-not-is_allowed : goal.returns-then-not-is_allowed
returns-then-not-is_allowed c =
    sym (found _ _ _ c.loop-i.i c.loop-i.auto.i (omega arith) c.loop-i.invariant (rw (← c.part_of-prefix.ensures, ← c.is_allowed.ensures) c.if-not-is_allowed.true))
