use Rattle.std.proofs.Common.{sym, ◌∙◌, arith}
use Rattle.carts.proofs.LetterLaws.{same_next, letter_differs, letters_whole}
use Rattle.carts.proofs.titles.compare_letters.Goals as goal

pub loop-i-init : goal.loop-i-init
loop-i-init c = c.same_front-i.ensures

pub returns-then-not-same_letter : goal.returns-then-not-same_letter
returns-then-not-same_letter c =
    let differs = sym c.same_letter.ensures ∙ c.if-not-same_letter.true in
    let r = letter_differs c.loop-i.i c.args.a.now c.args.b.now (omega arith) (omega arith) c.loop-i.invariant.1 differs in
    (c.new.ensures.0 ∙ r.0, omega (arith, c.new.ensures.1, r.1))

pub loop-i-preserved : goal.loop-i-preserved
loop-i-preserved c =
    let same = sym c.same_letter.ensures ∙ c.if-not-same_letter.false in
    (omega arith, same_next c.loop-i.i c.args.a.now c.args.b.now (omega arith) (omega arith) c.loop-i.invariant.1 same)

pub returns : goal.returns
returns c =
    let r = letters_whole c.loop-i.i c.args.a.now c.args.b.now (omega arith) (omega arith) c.loop-i.invariant.1 in
    (c.new-2.ensures.0 ∙ r.0, omega (arith, c.new-2.ensures.1, r.1))
