use Rattle.std.proofs.Common.{◌*◌, ◌+◌, arith, ◌∙◌, drop}
use Rattle.std.proofs.lemmas.Bool.Decides.{nat_tests}
use Rattle.lines.proofs.TextLaws.{number_none, number_fits, number_large, numeral_more, numeral_end}
use Rattle.lines.proofs.text.number_of.Goals as goal

pub returns-then-is_empty : goal.returns-then-is_empty
returns-then-is_empty c = number_none c.args.most c.args.digits.now (grind (arith, nat_tests))

pub returns-then-from-value : goal.returns-then-from-value
returns-then-from-value c =
    let i = c.loop-digit in
    let ds = c.args.digits.now in
    let more = numeral_more ds i.digit-index i.value (omega arith) in
    let v = 10 * i.value + c.from.result in
    number_large c.args.most v ds (drop (i.digit-index + 1) ds) (λ e. omega arith) (rw (c.from.ensures, c.saturating_sub.ensures) (i.invariant.1 ∙ more)) (omega arith)

pub loop-digit-preserved : goal.loop-digit-preserved
loop-digit-preserved c =
    let i = c.loop-digit in
    let more = numeral_more c.args.digits.now i.digit-index i.value (omega arith) in
    (omega arith, rw (c.from.ensures, c.saturating_sub.ensures) (i.invariant.1 ∙ more))

pub returns : goal.returns
returns c =
    let i = c.loop-digit in
    number_fits c.args.most i.value c.args.digits.now (grind (arith, nat_tests)) (i.invariant.1 ∙ numeral_end c.args.digits.now i.digit-index i.value (omega arith)) i.invariant.0
