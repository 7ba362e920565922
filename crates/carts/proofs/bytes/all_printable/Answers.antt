use Rattle.std.proofs.Common.{◌&&◌, ap, arith}
use Rattle.carts.proofs.ScanLaws.{every_more, every_done}
use Rattle.carts.specs.Cart.{printable}
use Rattle.carts.proofs.bytes.all_printable.Goals as goal

pub loop-b-preserved : goal.loop-b-preserved
loop-b-preserved c = every_more printable _ c.loop-b.b-index _ (omega arith) c.loop-b.invariant (ap (λ b. c.loop-b.ok && b) c.is_printable-ok.ensures)

pub returns : goal.returns
returns c = every_done printable _ c.loop-b.b-index _ (omega arith) c.loop-b.invariant
