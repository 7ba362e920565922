use Rattle.std.proofs.Common.{eqb, arith}
use Rattle.carts.proofs.ScanLaws.{every_more, every_done, or_zero}
use Rattle.carts.specs.Bytes.{all_zero}
use Rattle.carts.proofs.bytes.all_zero.Goals as goal

pub loop-b-preserved : goal.loop-b-preserved
unfolding all_zero
loop-b-preserved c = every_more (λ b. eqb b 0) _ c.loop-b.b-index _ (omega arith) c.loop-b.invariant (or_zero c.loop-b.joined _)

pub returns : goal.returns
unfolding all_zero
returns c = every_done (λ b. eqb b 0) _ c.loop-b.b-index _ (omega arith) c.loop-b.invariant
