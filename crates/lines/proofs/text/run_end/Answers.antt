use Rattle.std.proofs.Common.{◌≡◌, sym, ◌∙◌, arith}
use Rattle.lines.proofs.TextLaws.{run_more, run_stops, run_ends}
use Rattle.lines.proofs.text.run_end.Goals as goal

pub returns-then-not-is_in : goal.returns-then-not-is_in
returns-then-not-is_in c = let s = c.args.s.now in let k = c.args.class in
    (sym (c.loop-i.invariant.1 ∙ run_stops k s c.loop-i.i (omega arith) (sym c.is_in.ensures ∙ c.if-not-is_in.true)), omega arith, λ h. omega arith)

pub loop-i-preserved : goal.loop-i-preserved
loop-i-preserved c = let s = c.args.s.now in (omega arith, c.loop-i.invariant.1 ∙ run_more c.args.class s c.loop-i.i (omega arith) (sym c.is_in.ensures ∙ c.if-not-is_in.false))

pub returns : goal.returns
returns c = let s = c.args.s.now in
    let e : c.max.result ≡ c.loop-i.i = omega (arith, c.max.ensures) in
    (rw e (sym (c.loop-i.invariant.1 ∙ run_ends c.args.class s c.loop-i.i (omega arith))), omega arith, λ h. omega arith)
