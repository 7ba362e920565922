use Rattle.std.proofs.Common.{◌&&◌, ◌+◌, ◌-◌, ◌≡◌, min, length, drop, get_or, cond, ltb, eqb, ap, refl, arith}
use Rattle.std.proofs.lemmas.Iterator.{YieldsList-from_slice, YieldsList-from_range, YieldsList-from_zip}
use Rattle.std.proofs.lemmas.List.{length_push}
use Rattle.carts.specs.Cart.{printable}
use Rattle.carts.proofs.CartLaws.{letters, letters_step, letters_end}
use Rattle.carts.proofs.IndexLaws.{index_turn, index_end}
use Rattle.carts.proofs.ScanLaws.{test_more, test_end}
use Rattle.carts.proofs.cart.is_title_in.Goals as goal

pub loop-b-preserved : goal.loop-b-preserved
loop-b-preserved c =
    let field = c.args.field.now in
    let n = c.args.n in
    let xs = c.loop-b.yielded in
    let i = length xs in
    let e = YieldsList-from_zip (YieldsList-from_slice field (cc)) (YieldsList-from_range 0 255 255 (cc) refl) in
    let t = index_turn field 255 e xs c.loop-b.b-iterator c.loop-b.yielded_by c.next.result c.next.new.self (c.in-Some.b, c.in-Some.j) c.in-Some.is c.next.ensures.steps in
    let b = get_or field i 0 in
    let test = rw (t.1, t.2) at c.is_title_byte-ok.ensures in
    rw length_push (test_more c.loop-b.ok (cond (ltb i n) (printable b) (eqb b 0)) (letters (n - (i + 1)) (drop (i + 1) field)) c.loop-b.invariant (letters_step n i field t.0) (ap (λ r. c.loop-b.ok && r) test))

pub returns : goal.returns
returns c =
    let field = c.args.field.now in
    let xs = c.loop-b.yielded in
    let t : length xs ≡ min (length field) 255 = index_end field 255 (YieldsList-from_zip (YieldsList-from_slice field (cc)) (YieldsList-from_range 0 255 255 (cc) refl)) xs c.loop-b.b-iterator c.loop-b.yielded_by c.next.result c.next.new.self c.in-None.is c.next.ensures.steps in
    test_end c.loop-b.ok c.loop-b.invariant (letters_end c.args.n (length xs) field (omega (arith, t)))
