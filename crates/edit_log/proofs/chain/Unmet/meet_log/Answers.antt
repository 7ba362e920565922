use Rattle.std.proofs.Common.{◌≡◌, ◌+◌, ◌-◌, arith, refl, sym, ap, ◌∙◌}
use Rattle.edit_log.specs.declared.record.Record.{Record}
use Rattle.edit_log.proofs.BoolLaws.{never}
use Rattle.edit_log.proofs.MeetLaws.{sized_in, log_bad, log_over, log_step, met_step, log_done, met_none}
use Rattle.edit_log.proofs.chain.Unmet.meet_log.Goals as goal

pub returns-in_default : goal.returns-in_default
returns-in_default c = (log_bad _ _ _ 0 (sym c.in_default.ensures) _ _ (omega arith) refl ∙ sym c.loop.invariant.0, λ e. never e)

pub returns-then-room-n : goal.returns-then-room-n
returns-then-room-n c = let m = c.in-Some.ensures in (log_over _ _ _ _ m.1.0 _ _ (omega arith) (λ z. omega arith) c.if-room-n.true ∙ sym c.loop.invariant.0, λ e. never e)

pub at-first-requires : goal.at-first-requires
at-first-requires c = (c.requires, sized_in _ _ _ _ c.in-Some.ensures.1.0 (λ z. let m = c.in-Some.ensures in omega arith))

pub loop-preserved : goal.loop-preserved
loop-preserved c =
    let m = c.in-Some.ensures in
    let v = c.loop.invariant in
    let e : c.args.transactions - (c.loop.counter + 1) ≡ c.args.transactions - c.loop.counter - 1 = omega arith in
    let next = ap (λ (x : Record). x.next_transaction) c.at-first.ensures.0 in
    rw e
    (v.0 ∙ log_step _ _ _ _ m.1.0 _ _ (omega arith) (λ z. omega arith) _ next _ m.1.1 c.if-room-n.false, v.1 ∙ met_step _ _ _ _ m.1.0 _ c.loop.room (omega arith) (λ z. omega arith) _ next _ m.1.1)

pub returns : goal.returns
returns c = let v = c.loop.invariant in (log_done _ _ _ _ _ (omega arith) ∙ sym v.0, λ z. sym (v.1 ∙ met_none _ _ _ _ (omega arith)))
