use Rattle.std.proofs.Common.{refl, arith}
use Rattle.lines.specs.Build.{u16_list}
use Rattle.lines.proofs.BuildLaws.{u16s_more, u16s_end}
use Rattle.lines.proofs.build.put_u16s.Goals as goal

pub loop-i-init : goal.loop-i-init
unfolding u16_list
loop-i-init c = refl

pub loop-i-preserved : goal.loop-i-preserved
loop-i-preserved c = let i = c.loop-i in rw (c.put_u16.ensures, i.invariant) (u16s_more c.args.numbers.now c.args.field.now i.i (omega arith))

pub returns : goal.returns
returns c = let i = c.loop-i in rw i.invariant (u16s_end c.args.numbers.now c.args.field.now i.i (omega arith))
