use Rattle.std.proofs.Common.{◌≡◌, ◌+◌, ◌-◌, arith, refl, sym, ap, ◌∙◌}
use Rattle.edit_log.specs.Log.{free_records}
use Rattle.edit_log.specs.Chains.{free_form}
use Rattle.edit_log.specs.declared.record.Record.{Record}
use Rattle.edit_log.proofs.BoolLaws.{never}
use Rattle.edit_log.proofs.MeetLaws.{ends, left_in, free_out, free_bad, free_step, met_free, free_done, met_end}
use Rattle.edit_log.proofs.chain.Unmet.meet_free.Goals as goal

pub loop-init : goal.loop-init
unfolding free_records
loop-init c = let e : 512 - c.args.used + (c.args.used + 1) ≡ 513 = omega arith in rw e (refl, refl)

pub returns-then-not-meet : goal.returns-then-not-meet
returns-then-not-meet c = (free_out _ _ _ _ _ _ _ (omega arith) _ c.meet.ensures.0 c.if-not-meet.true ∙ sym c.loop.invariant.0, λ e. never e)

pub record_at-requires : goal.record_at-requires
record_at-requires c = (c.requires.0, left_in _ _ (sym c.meet.ensures.0 ∙ c.if-not-meet.false))

pub returns-then-not-is_free : goal.returns-then-not-is_free
returns-then-not-is_free c =
    let free = c.is_free.ensures ∙ ap free_form c.record_at.ensures.0 in
    (free_bad _ _ _ _ _ _ _ (omega arith) _ c.meet.ensures.0 c.if-not-meet.false _ free c.if-not-is_free.true ∙ sym c.loop.invariant.0, λ e. never e)

pub at-r-requires : goal.at-r-requires
at-r-requires c = (c.requires.0, left_in _ _ (sym c.meet.ensures.0 ∙ c.if-not-meet.false))

pub loop-preserved : goal.loop-preserved
loop-preserved c =
    let v = c.loop.invariant in
    let m = c.meet.ensures in
    let ok = c.if-not-meet.false in
    let free = c.is_free.ensures ∙ ap free_form c.record_at.ensures.0 in
    let next = ap (λ (x : Record). x.next_operation) c.at-r.ensures.0 in
    let new = m.1 c.if-not-meet.false in
    let e : 512 - (c.loop.counter + 1) ≡ 512 - c.loop.counter - 1 = omega arith in
    rw e
    (v.0 ∙ free_step _ _ _ _ _ _ _ (omega arith) _ m.0 ok _ free _ next _ new c.if-not-is_free.false, v.1 ∙ met_free _ _ (c.args.used + 1) _ _ c.loop.before c.args.last (omega arith) _ m.0 ok _ free _ next _ new)

pub returns : goal.returns
returns c =
    let v = c.loop.invariant in
    (free_done _ _ _ _ _ _ _ (omega arith) (omega arith) ∙ sym v.0, λ z. sym (v.1 ∙ met_end _ _ _ _ (ends c.loop.r _ z)))
