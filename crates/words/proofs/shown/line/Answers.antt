use Rattle.std.proofs.Common.{◌≡◌, length, arith, refl}
use Rattle.words.specs.Page.{shown_to, shown}
use Rattle.words.proofs.PageLaws.{shown_more}
use Rattle.words.proofs.shown.line.Goals as goal

pub loop-b-init : goal.loop-b-init
unfolding shown_to
loop-b-init c = record { text = c.clear.ensures; fits = rw c.clear.ensures (omega arith) }

pub loop-b-preserved : goal.loop-b-preserved
loop-b-preserved c = record { text = rw (c.put_shown.ensures.text, c.loop-b.invariant.text, shown_more) refl; fits = omega arith }

pub returns : goal.returns
unfolding shown
returns c = let e : c.loop-b.b-index ≡ length c.args.s.now = omega arith in rw (c.loop-b.invariant.text, e) refl
