use Prim.Native.Nat.{ℕ}
use mathlib.Core.Path.{ap}
use mathlib.Core.Bool.{◌&&◌}
use native.Mathlib.Omega.{arith}
use lib.Dec.{ltb}
use Rattle.replication.proofs.RetireLaws.{applied_by}
use Rattle.replication.proofs.StudioLaws.{studios_more, studios_end, studios_last}
use Rattle.replication.proofs.retire.have_applied.Goals as goal

pub loop-i-preserved : goal.loop-i-preserved
loop-i-preserved c = let k = c.args.control in
    studios_more (applied_by k) k.studios c.loop-i.i c.loop-i.ok c.loop-i.invariant (omega arith) (omega arith) (ap (λ (n : ℕ). c.loop-i.ok && ltb k.retired n) c.applied_by.ensures)

pub returns : goal.returns
returns c = let k = c.args.control in
    studios_end (applied_by k) k.studios c.loop-i.i c.loop-i.ok c.loop-i.invariant (omega arith) (omega arith)

pub returns-2 : goal.returns-2
returns-2 c = let k = c.args.control in
    studios_last (applied_by k) k.studios c.loop-i.i c.loop-i.ok c.loop-i.invariant (omega arith) (omega arith) (ap (λ (n : ℕ). c.loop-i.ok && ltb k.retired n) c.applied_by.ensures)
