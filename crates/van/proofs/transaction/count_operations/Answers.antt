-- The loop follows the chain; what is still to count is `Left log n r`.
use mathlib.Core.Path.{ap}
use mathlib.Core.Bool.{true}
use native.Mathlib.Omega.{arith}
use Rattle.edit_log.specs.Log.{records_of}
use Rattle.edit_log.specs.declared.record.Record.{Record}
use Rattle.van.proofs.TransactionLaws.{counted, counted_all, next_length, here, later}
use Rattle.van.proofs.transaction.count_operations.Goals as goal

pub loop-n-init : goal.loop-n-init
unfolding records_of
loop-n-init c = (omega arith, c.requires.1, omega arith)

pub returns-then-r-eq0 : goal.returns-then-r-eq0
returns-then-r-eq0 c = let t = c.loop-n in counted _ t.n t.r c.if-r-eq0.true t.invariant.2

pub at-r-requires : goal.at-r-requires
at-r-requires c = let u = here _ c.loop-n.n c.loop-n.r c.loop-n-test.true c.if-r-eq0.false c.loop-n.invariant.1 in
    (c.requires.0, (u.low, u.high))

pub loop-n-preserved : goal.loop-n-preserved
loop-n-preserved c = let t = c.loop-n in
    let h = c.loop-n-test.true in
    let next = ap (λ (x : Record). x.next_operation) c.at-r.ensures.0 in
    (omega arith, rw next (later _ t.n t.r h c.if-r-eq0.false t.invariant.1), rw next (next_length _ t.n t.r h c.if-r-eq0.false t.invariant.2))

pub returns : goal.returns
returns c = let t = c.loop-n in let whole = counted_all _ t.n t.r (omega arith) t.invariant.2 in omega (arith, whole)
