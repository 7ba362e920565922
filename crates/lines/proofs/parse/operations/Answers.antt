use Rattle.std.proofs.Common.{◌≡◌, ◌≤◌, ◌+◌, ◌*◌, ◌∙◌, sym, arith, length}
use Rattle.carts.proofs.PartLaws.{length_part}
use Rattle.lines.proofs.ParseLaws.{passed_all, operations_first, operations_more, operations_last, operations_full}
use borrow.Author.Tests.{ne_eqb}
use lib.Seq.{length-take-le}
use native.Mathlib.Nat.{add-sub_cancel_left}
use Rattle.lines.proofs.parse.operations.Goals as goal

pub loop-n-init : goal.loop-n-init
loop-n-init c =
    let p = c.args.payload.now in
    let one = c.operation in
    (omega arith, operations_first c.args.c.now one.new.c p one.new.op one.ensures (one.auto.op ∙ length-take-le 80 p (omega arith)) (omega arith))

pub returns-then-peek-ne59 : goal.returns-then-peek-ne59
returns-then-peek-ne59 c =
    let t = c.loop-n in
    (passed_all _ 80 _ _ _ _ (operations_last _ t.c t.n c.args.payload.now t.payload t.invariant.1 (omega arith) (λ e. c.if-peek-ne59.true (c.peek.ensures ∙ e))), omega arith, omega arith)

pub loop-n-preserved : goal.loop-n-preserved
loop-n-preserved c =
    let t = c.loop-n in
    let one = c.operation-in-loop-n in
    let a = 80 * t.n in
    let k = t.invariant.1.kept in
    let h : a + 80 ≤ length t.payload = omega arith in
    let l : length one.new.op ≡ 80 = one.auto.op ∙ rw add-sub_cancel_left (length_part t.payload a 80 h) in
    (omega arith, rw add-sub_cancel_left (operations_more _ t.c one.new.c t.n c.args.payload.now t.payload one.new.op t.invariant.1 (omega arith) (sym c.peek.ensures ∙ c.if-peek-ne59.false) (rw c.mark.ensures at one.ensures) l (omega arith)))

pub returns-then-peek-eq59 : goal.returns-then-peek-eq59
returns-then-peek-eq59 c =
    let t = c.loop-n in
    let e : 8 ≡ t.n = omega arith in
    let p = operations_full _ t.c t.n c.args.payload.now t.payload t.invariant.1 (omega arith) in
    (rw (e, c.stop.ensures) (rw (← c.peek-2.ensures, c.if-peek-eq59.true) at (passed_all _ 80 _ _ _ _ p)), omega arith, omega arith)

pub returns-else-peek-eq59 : goal.returns-else-peek-eq59
returns-else-peek-eq59 c =
    let t = c.loop-n in
    let e : 8 ≡ t.n = omega arith in
    let p = operations_full _ t.c t.n c.args.payload.now t.payload t.invariant.1 (omega arith) in
    (rw e (rw (← c.peek-2.ensures, ne_eqb _ _ c.if-peek-eq59.false) at (passed_all _ 80 _ _ _ _ p)), omega arith, omega arith)
