use Rattle.std.proofs.Common.{refl, sym, ◌∙◌, arith}
use native.Mathlib.Nat.{add-sub_cancel_left}
use Rattle.carts.specs.Bytes.{pairwise}
use Rattle.carts.proofs.LetterLaws.{same_more}
use Rattle.carts.proofs.titles.same_front.Goals as goal

pub loop-i-init : goal.loop-i-init
unfolding pairwise
loop-i-init c = (omega arith, refl)

pub loop-i-preserved : goal.loop-i-preserved
loop-i-preserved c =
    let same = rw add-sub_cancel_left at (sym c.are_same_letters.ensures ∙ c.if-not-are_same_letters.false) in
    (omega arith, same_more c.loop-i.i 8 c.args.a.now c.args.b.now c.loop-i.invariant.1 same)
