use Rattle.std.proofs.Common.{arith, sym, refl, append_assoc, append-nil}
use Rattle.words.specs.Request.{asked_numbers}
use Rattle.words.proofs.RequestLaws.{asked_more}
use Rattle.words.proofs.request.put_asked.Goals as goal

pub loop-i-init : goal.loop-i-init
unfolding asked_numbers
loop-i-init c = record { text = sym (append-nil c.args.page.now); fits = omega arith }

pub loop-i-preserved : goal.loop-i-preserved
loop-i-preserved c = record { text = rw (c.put_numbered.ensures.text, c.loop-i.invariant.text, asked_more, append_assoc, c.asked.ensures) refl; fits = omega arith }
