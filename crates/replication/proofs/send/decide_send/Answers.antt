use mathlib.Core.Path.{refl, sym, ap₂, ◌∙◌}
use native.Mathlib.Omega.{arith}
use Prim.Native.Nat.{ℕ, ◌-◌}
use Rattle.std.proofs.lemmas.Result.{err_from_is_err_and}
use Rattle.carts.proofs.RefusalLaws.{refuses}
use Rattle.replication.specs.Rows.{send_rows, send_stop}
use Rattle.replication.proofs.RowLaws.{studio_numbered}
use Rattle.replication.proofs.DecideLaws.{by_first, by_rest}
use Rattle.replication.proofs.SendLaws.{all_sent, window_full, may_send, studio_known}
use Rattle.replication.proofs.send.decide_send.Goals as goal

pub returns-in_err-stopped_by_studio : goal.returns-in_err-stopped_by_studio
unfolding send_stop send_rows
returns-in_err-stopped_by_studio c =
    let p = err_from_is_err_and c.from_residual.result c.from_residual.ensures.1 in
    rw (p.1, p.2) (by_first _ _ _ _ (studio_numbered _ _) _ c.in_err-stopped_by_studio.ensures (refuses _))

pub sent_to-sent-requires : goal.sent_to-sent-requires
sent_to-sent-requires c = (studio_known _ _ _ c.in_ok-stopped_by_studio.ensures).0

pub applied_by-applied-requires : goal.applied_by-applied-requires
applied_by-applied-requires c = (studio_known _ _ _ c.in_ok-stopped_by_studio.ensures).0

pub overflow_sub-sent : goal.overflow_sub-sent
overflow_sub-sent c =
    let k = (studio_known _ _ _ c.in_ok-stopped_by_studio.ensures).1 in
    let e = c.sent_to-sent.ensures in
    let f = c.applied_by-applied.ensures in
    omega (arith, k.order)

pub returns-then-sent-system : goal.returns-then-sent-system
unfolding send_stop send_rows
returns-then-sent-system c = by_rest _ _ _ _ (studio_numbered _ _) _ c.in_ok-stopped_by_studio.ensures refl 9 (all_sent _ _ _ (sym c.sent_to-sent.ensures ∙ c.if-sent-system.true))

pub returns-then-sent-applied-eq-WINDOW : goal.returns-then-sent-applied-eq-WINDOW
unfolding send_stop send_rows
returns-then-sent-applied-eq-WINDOW c =
    let e = c.sent_to-sent.ensures in
    by_rest _ _ _ _ (studio_numbered _ _) _ c.in_ok-stopped_by_studio.ensures refl 10
    (window_full _ _ _ (λ z. c.if-sent-system.false (e ∙ z)) (sym (ap₂ (λ (x y : ℕ). x - y) e c.applied_by-applied.ensures) ∙ c.if-sent-applied-eq-WINDOW.true))

pub returns : goal.returns
unfolding send_stop send_rows
returns c =
    let e = c.sent_to-sent.ensures in
    by_rest _ _ _ _ (studio_numbered _ _) _ c.in_ok-stopped_by_studio.ensures refl 0
    (may_send _ _ _ (λ z. c.if-sent-system.false (e ∙ z)) (λ z. c.if-sent-applied-eq-WINDOW.false (ap₂ (λ (x y : ℕ). x - y) e c.applied_by-applied.ensures ∙ z)))
