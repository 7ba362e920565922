use mathlib.Core.Path.{refl, ◌∙◌}
use Rattle.std.proofs.lemmas.Result.{err_from_is_err_and}
use Rattle.carts.proofs.RefusalLaws.{refuses}
use Rattle.replication.specs.System.{memory_of}
use Rattle.replication.specs.Rows.{move_rows, move_stop}
use Rattle.replication.proofs.RowLaws.{session_numbered}
use Rattle.replication.proofs.DecideLaws.{by_first}
use Rattle.replication.proofs.MoveLaws.{move_rest, no_studio, move_waiting, may_move}
use Rattle.replication.proofs.SessionLaws.{own_waits, session_found}
use Rattle.replication.proofs.move_session.decide_move.Goals as goal

pub returns-in_err-stopped_by_session : goal.returns-in_err-stopped_by_session
unfolding move_stop move_rows
returns-in_err-stopped_by_session c =
    let p = err_from_is_err_and c.from_residual.result c.from_residual.ensures.1 in
    rw (p.1, p.2) (by_first _ _ _ _ (session_numbered _ _) _ c.in_err-stopped_by_session.ensures (refuses _))

pub returns-in_err-studio_row : goal.returns-in_err-studio_row
returns-in_err-studio_row c =
    let r = c.from_residual-in_err-studio_row in
    let p = err_from_is_err_and r.result r.ensures.1 in
    rw (p.1, p.2) (move_rest _ _ _ c.in_ok-stopped_by_session.ensures _ _ (no_studio _ _ _ _ c.in_err-studio_row.ensures (refuses _)))

pub session_at-requires : goal.session_at-requires
session_at-requires c = session_found c.args.system.now.control (memory_of c.args.system.now) _ c.in_ok-stopped_by_session.ensures

pub returns-then-is_waiting : goal.returns-then-is_waiting
returns-then-is_waiting c =
    let waits = own_waits _ _ _ c.session_at.ensures.0 c.from_bytes-own.ensures.0 _ c.is_waiting.ensures in
    move_rest _ _ _ c.in_ok-stopped_by_session.ensures _ _ (move_waiting _ _ _ _ c.in_ok-studio_row.ensures refl (waits ∙ c.if-is_waiting.true))

pub returns : goal.returns
returns c =
    let waits = own_waits _ _ _ c.session_at.ensures.0 c.from_bytes-own.ensures.0 _ c.is_waiting.ensures in
    move_rest _ _ _ c.in_ok-stopped_by_session.ensures _ _ (may_move _ _ _ _ c.in_ok-studio_row.ensures refl (waits ∙ c.if-is_waiting.false))
