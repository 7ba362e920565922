use mathlib.Core.Path.{refl}
use native.Mathlib.Omega.{arith}
use lib.Dec.{leb}
use Rattle.carts.proofs.ScanLaws.{every_more, every_done}
use Rattle.replication.proofs.control.are_at_most.Goals as goal

pub loop-n-preserved : goal.loop-n-preserved
loop-n-preserved c = every_more (λ i. leb i c.args.most) c.args.numbers.now c.loop-n.n-index c.loop-n.ok (omega arith) c.loop-n.invariant refl

pub returns : goal.returns
returns c = every_done (λ i. leb i c.args.most) c.args.numbers.now c.loop-n.n-index c.loop-n.ok (omega arith) c.loop-n.invariant
