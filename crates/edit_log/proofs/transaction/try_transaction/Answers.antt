use Rattle.std.proofs.Common.{◌≡◌, ◌+◌, ◌-◌, Bool, ◌&&◌, arith, refl, sym, ap, ◌∙◌}
use Rattle.carts.specs.Operation.{meets, act}
use Rattle.carts.proofs.ScanLaws.{test_more, test_end}
use Rattle.edit_log.specs.Log.{record_at, records_of, transaction_at}
use Rattle.edit_log.specs.declared.record.Record.{Record}
use Rattle.edit_log.proofs.TransactionLaws.{usable_here, usable_later, acts, acts_ends, acts_stops, met_then, met_ends, met_stops}
use Rattle.edit_log.proofs.transaction.try_transaction.Goals as goal

pub loop-init : goal.loop-init
unfolding records_of transaction_at
loop-init c = (c.requires.0, c.requires.1.1, refl, refl)

pub returns-then-r-eq0 : goal.returns-then-r-eq0
returns-then-r-eq0 c = (test_end c.loop.ok c.loop.invariant.2 (met_ends _ _ _ _ c.if-r-eq0.true), sym (c.loop.invariant.3 ∙ acts_ends _ _ _ _ c.if-r-eq0.true))

pub record_at-op-requires : goal.record_at-op-requires
record_at-op-requires c = let u = usable_here _ _ _ (omega arith) c.if-r-eq0.false c.loop.invariant.1 in (c.requires.1.0, (u.low, u.high))

pub meets-ok-requires-clause-number : goal.meets-ok-requires-clause-number
meets-ok-requires-clause-number c =
    let u = usable_here _ _ _ (omega arith) c.if-r-eq0.false c.loop.invariant.1 in
    let e = c.record_at-op.ensures in
    (rw e.0 u.cart_low, rw e.0 u.cart_high)

pub apply-requires-clause-number : goal.apply-requires-clause-number
apply-requires-clause-number c =
    let u = usable_here _ _ _ (omega arith) c.if-r-eq0.false c.loop.invariant.1 in
    let e = c.record_at-op.ensures in
    (rw e.0 u.cart_low, rw e.0 u.cart_high)

pub at-r-requires : goal.at-r-requires
at-r-requires c = let u = usable_here _ _ _ (omega arith) c.if-r-eq0.false c.loop.invariant.1 in (c.requires.1.0, (u.low, u.high))

pub loop-preserved : goal.loop-preserved
loop-preserved c =
    let log = c.args.log.now in
    let left = 9 - c.loop.counter in
    let v = c.loop.invariant in
    let r = c.loop.r in
    let q : 9 - (c.loop.counter + 1) ≡ left - 1 = omega arith in
    let n = ap (λ (x : Record). x.next_operation) c.at-r.ensures.0 in
    let op = c.record_at-op.ensures.0 in
    let copy = c.apply.ensures ∙ ap (act c.loop.copy) op in
    let met = c.meets-ok.ensures ∙ ap (meets c.loop.copy) op in (
      c.apply.auto.copy ∙ v.0,
      rw (q, n) (usable_later log left r (omega arith) c.if-r-eq0.false v.1),
      rw (q, n, copy) (test_more c.loop.ok (meets c.loop.copy (record_at log r)) _ v.2 (met_then log left r (omega arith) c.loop.copy c.if-r-eq0.false) (ap (λ (b : Bool). c.loop.ok && b) met)),
      rw (q, n, copy) (v.3 ∙ acts log left r (omega arith) c.loop.copy c.if-r-eq0.false),
    )

pub returns : goal.returns
returns c = (test_end c.loop.ok c.loop.invariant.2 (met_stops _ _ _ _ (omega arith)), sym (c.loop.invariant.3 ∙ acts_stops _ _ _ _ (omega arith)))
