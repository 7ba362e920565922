use Rattle.std.proofs.Common.{◌≡◌, ◌<◌, ◌≤◌, Bool, true, false, cond, ◌&&◌, refl, ap, ◌∙◌, arith}
use mir.Val.{bool_byte}
use borrow.Author.Tests.{lt-leb}
use Rattle.carts.specs.Bytes.{byte}
use Rattle.carts.proofs.ScanLaws.{test_more}
use Rattle.one_copy.specs.Replay.{numbers_agree}
use Rattle.one_copy.proofs.ReplayLaws.{places_next, held_next, numbers_done}
use Rattle.one_copy.proofs.replay.numbers_agree.Goals as goal

held_byte : (b : Bool) → bool_byte b ≡ cond b 1 0
held_byte true = refl
held_byte false = refl

one_at_most : (b : Bool) → cond b 1 0 ≤ 1
one_at_most true = omega arith
one_at_most false = omega arith

pub returns-then-n-gt-NUMBERS_MOST : goal.returns-then-n-gt-NUMBERS_MOST
unfolding numbers_agree
returns-then-n-gt-NUMBERS_MOST c = let h : 32 < byte c.args.request.now 1 = omega arith in rw (lt-leb _ _ h)

pub loop-i-preserved : goal.loop-i-preserved
loop-i-preserved c =
    let s = c.args in
    let t = c.loop-i in
    let n = c.byte_at-n.result in
    let e = rw (c.u16_at-c.ensures.0, c.part_of.ensures) at c.place_agrees-ok.ensures in
    let h = c.from-held.ensures ∙ held_byte c.is_held_at.result in
    let m = one_at_most c.is_held_at.result in
    let k = rw c.u16_at-c.ensures.0 at c.is_held_at.ensures in
    let q = held_next s.copy.now s.request.now s.shown.now n t.i c.loop-i-test.true in
    record {
      few = omega (arith, t.invariant.few);
      agree = test_more t.ok _ _ t.invariant.agree (places_next s.copy.now s.request.now s.shown.now n t.i c.loop-i-test.true) (ap (λ b. t.ok && b) e);
      held = let w = rw k at h in omega (arith, t.invariant.held);
    }

pub returns-then-ok : goal.returns-then-ok
returns-then-ok c =
    let s = c.args in
    let t = c.loop-i in
    rw c.if-ok.true at (numbers_done s.copy.now s.request.now s.shown.now c.byte_at-n.result t.i s.found t.held t.ok c.byte_at-n.ensures.0 (omega arith) (omega arith) t.invariant.agree t.invariant.held)

pub returns-else-ok : goal.returns-else-ok
returns-else-ok c =
    let s = c.args in
    let t = c.loop-i in
    c.if-ok.false ∙ (rw c.if-ok.false at (numbers_done s.copy.now s.request.now s.shown.now c.byte_at-n.result t.i s.found t.held t.ok c.byte_at-n.ensures.0 (omega arith) (omega arith) t.invariant.agree t.invariant.held))
