use Prim.Native.Nat.{ℕ}
use mathlib.Core.Path.{ap}
use mathlib.Core.Bool.{◌&&◌}
use native.Mathlib.Omega.{arith}
use lib.Dec.{leb}
use Rattle.carts.proofs.ScanLaws.{every_more, every_done}
use Rattle.replication.proofs.setup.are_studios.Goals as goal

pub loop-b-preserved : goal.loop-b-preserved
loop-b-preserved c =
    every_more (λ b. leb b c.args.studios) c.args.places.now c.loop-b.b-index c.loop-b.ok (omega arith) c.loop-b.invariant
    (ap (λ (n : ℕ). c.loop-b.ok && leb n c.args.studios) c.from.ensures)

pub returns : goal.returns
returns c = every_done (λ b. leb b c.args.studios) c.args.places.now c.loop-b.b-index c.loop-b.ok (omega arith) c.loop-b.invariant
