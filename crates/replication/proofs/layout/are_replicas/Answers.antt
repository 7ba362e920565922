use mathlib.Core.Path.{ap, ◌∙◌}
use mathlib.Core.Bool.{◌&&◌}
use native.Mathlib.Omega.{arith}
use Rattle.carts.proofs.RecordLaws.{each_more, each_done}
use Rattle.replication.specs.Memory.{copy_at}
use Rattle.replication.specs.Layout.{replica_form}
use Rattle.replication.proofs.layout.are_replicas.Goals as goal

pub loop-i-preserved : goal.loop-i-preserved
unfolding copy_at
loop-i-preserved c = let g = c.args in
    let e = c.is_replica-ok.ensures ∙ ap (replica_form g.studios c.loop-i.i) c.copy_at.ensures.0 in
    each_more (replica_form g.studios) 10240 5 c.loop-i.i c.loop-i.i g.library.now c.loop-i.ok (omega arith) c.loop-i.invariant (ap (λ b. c.loop-i.ok && b) e)

pub returns : goal.returns
returns c = each_done (replica_form c.args.studios) 10240 5 c.loop-i.i c.loop-i.i c.args.library.now c.loop-i.ok (omega arith) c.loop-i.invariant
