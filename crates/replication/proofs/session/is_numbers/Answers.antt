-- The loop tests the numbers one by one.
use Prim.Native.Nat.{◌≤◌, ◌-◌}
use native.Mathlib.Nat.{sub-zero}
use mathlib.Core.Path.{◌≡◌, sym, ap, ◌∙◌}
use mathlib.Core.Bool.{◌&&◌}
use native.Mathlib.Omega.{arith}
use Rattle.carts.specs.Bytes.{within, all_zero, byte}
use Rattle.replication.specs.Request.{numbers_in}
use Rattle.replication.proofs.RequestLaws.{numbers_few, numbers_many, numbers_more, numbers_end, numbers_are, numbers_rest}
use Rattle.replication.proofs.session.is_numbers.Goals as goal

pub returns-then-n-lt1 : goal.returns-then-n-lt1
returns-then-n-lt1 c = numbers_few c.args.x.now c.byte_at-n.result c.byte_at-n.ensures.0 c.if-n-lt1.true

pub returns-then-n-gt-NUMBERS_MOST : goal.returns-then-n-gt-NUMBERS_MOST
returns-then-n-gt-NUMBERS_MOST c = numbers_many c.args.x.now c.byte_at-n.result c.byte_at-n.ensures.0 c.if-n-gt-NUMBERS_MOST.true

pub loop-i-init : goal.loop-i-init
unfolding numbers_in
loop-i-init c = let x = c.args.x.now in
    let z : c.byte_at-n.result - 0 ≡ byte x 1 = sub-zero _ ∙ c.byte_at-n.ensures.0 in
    rw z

pub loop-i-preserved : goal.loop-i-preserved
loop-i-preserved c = let x = c.args.x.now in
    let e = c.is_within-ok.ensures ∙ ap (within 1 128) c.u16_at-c.ensures.0 in
    numbers_more (within 1 128) x _ c.loop-i.i c.loop-i.ok c.loop-i.invariant c.loop-i-test.true (ap (λ b. c.loop-i.ok && b) e)

pub returns : goal.returns
returns c = let x = c.args.x.now in
    let n = c.byte_at-n.result in
    let h : n ≤ 32 = omega arith in
    numbers_are x n c.byte_at-n.ensures.0 (omega arith) h c.loop-i.ok c.all_zero.result
    (numbers_end (within 1 128) x n c.loop-i.i c.loop-i.ok c.loop-i.invariant c.loop-i-test.false)
    (c.all_zero.ensures ∙ ap all_zero (sym (numbers_rest x n c.requires h)))
