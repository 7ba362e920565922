use mathlib.Core.Path.{refl, sym, ◌∙◌}
use mathlib.Core.List.{[]}
use borrow.Author.Tests.{eq-eqb, ne_eqb}
use Rattle.std.proofs.lemmas.Result.{err_from_is_err_and}
use Rattle.carts.proofs.RefusalLaws.{refuses}
use Rattle.replication.specs.Rows.{stopped, refresh_rows, refresh_stop}
use Rattle.replication.proofs.RowLaws.{row_stops, row_passes, studio_numbered}
use Rattle.replication.proofs.DecideLaws.{by_first, by_rest}
use Rattle.replication.proofs.SendLaws.{studio_known}
use Rattle.replication.proofs.refresh.decide_refresh.Goals as goal

pub returns-in_err-stopped_by_studio : goal.returns-in_err-stopped_by_studio
unfolding refresh_stop refresh_rows
returns-in_err-stopped_by_studio c =
    let p = err_from_is_err_and c.from_residual.result c.from_residual.ensures.1 in
    rw (p.1, p.2) (by_first _ _ _ _ (studio_numbered _ _) _ c.in_err-stopped_by_studio.ensures (refuses _))

pub sent_to-requires : goal.sent_to-requires
sent_to-requires c = (studio_known _ _ _ c.in_ok-stopped_by_studio.ensures).0

pub applied_by-requires : goal.applied_by-requires
applied_by-requires c = (studio_known _ _ _ c.in_ok-stopped_by_studio.ensures).0

pub returns-then-sent_to-applied_by : goal.returns-then-sent_to-applied_by
unfolding refresh_stop refresh_rows
returns-then-sent_to-applied_by c = by_rest _ _ _ _ (studio_numbered _ _) _ c.in_ok-stopped_by_studio.ensures refl 11
    (row_stops 11 _ _ (eq-eqb _ _ (sym c.sent_to.ensures ∙ c.if-sent_to-applied_by.true ∙ c.applied_by.ensures)))

pub returns : goal.returns
unfolding refresh_stop refresh_rows stopped
returns c = by_rest _ _ _ _ (studio_numbered _ _) _ c.in_ok-stopped_by_studio.ensures refl 0
    (sym (row_passes 11 _ [] (ne_eqb _ _ (λ z. c.if-sent_to-applied_by.false (c.sent_to.ensures ∙ z ∙ sym c.applied_by.ensures)))))
