use Rattle.std.proofs.Common.{sym, arith}
use borrow.Author.Tests.{eq-eqb, ne_eqb}
use Rattle.convert.specs.declared.fault.Rule.TheVariants.{ShortTitle}
use Rattle.convert.specs.Fault.{keeps}
use Rattle.convert.specs.Outcome.{copy_outcome}
use Rattle.convert.proofs.FaultLaws.{fault_named}
use Rattle.convert.proofs.outcome.judge_copy.Goals as goal

pub returns-then-copy-ne-COPY_SIZE : goal.returns-then-copy-ne-COPY_SIZE
unfolding copy_outcome
returns-then-copy-ne-COPY_SIZE c = rw (ne_eqb _ 10240 c.if-copy-ne-COPY_SIZE.true)

pub returns-in-Some : goal.returns-in-Some
unfolding copy_outcome
returns-in-Some c = rw (eq-eqb _ 10240 c.if-copy-ne-COPY_SIZE.false, ← c.in-Some.ensures)

pub cart_at-requires : goal.cart_at-requires
cart_at-requires c =
    let m = fault_named (keeps ShortTitle) 80 128 1 c.in-Some-first_fault.c c.args.copy.now (sym c.in-Some-first_fault.ensures) in
    (c.if-copy-ne-COPY_SIZE.false, (omega arith, omega arith))

pub returns-in-Some-first_fault : goal.returns-in-Some-first_fault
unfolding copy_outcome
returns-in-Some-first_fault c =
    rw (eq-eqb _ 10240 c.if-copy-ne-COPY_SIZE.false, ← c.in_default.ensures, ← c.in-Some-first_fault.ensures, c.byte_at-letters.ensures.0, c.cart_at.ensures.0)

pub returns : goal.returns
unfolding copy_outcome
returns c =
    rw (eq-eqb _ 10240 c.if-copy-ne-COPY_SIZE.false, ← c.in_default.ensures, ← c.in_default-first_fault.ensures, c.count_held.ensures)
