use mathlib.Core.Path.{◌∙◌}
use Rattle.std.proofs.lemmas.Result.{err_from_is_err_and}
use Rattle.carts.proofs.RefusalLaws.{refuses}
use Rattle.replication.specs.System.{memory_of}
use Rattle.replication.specs.Rows.{collect_rows, collect_stop}
use Rattle.replication.proofs.RowLaws.{session_numbered}
use Rattle.replication.proofs.DecideLaws.{by_first}
use Rattle.replication.proofs.ReadLaws.{collect_rest, collect_nothing, collect_no_room, may_collect}
use Rattle.replication.proofs.SessionLaws.{own_waits, own_needs, session_found}
use Rattle.replication.proofs.collect.decide_collect.Goals as goal

pub returns-in_err-stopped_by_session : goal.returns-in_err-stopped_by_session
unfolding collect_stop collect_rows
returns-in_err-stopped_by_session c =
    let p = err_from_is_err_and c.from_residual.result c.from_residual.ensures.1 in
    rw (p.1, p.2) (by_first _ _ _ _ (session_numbered _ _) _ c.in_err-stopped_by_session.ensures (refuses _))

pub session_at-requires : goal.session_at-requires
session_at-requires c = session_found c.args.system.now.control (memory_of c.args.system.now) _ c.in_ok-stopped_by_session.ensures

pub returns-then-not-is_waiting : goal.returns-then-not-is_waiting
returns-then-not-is_waiting c =
    let waits = own_waits _ _ _ c.session_at.ensures.0 c.from_bytes-own.ensures.0 _ c.is_waiting.ensures in
    collect_rest _ _ _ c.in_ok-stopped_by_session.ensures _ _ (collect_nothing _ _ (waits ∙ c.if-not-is_waiting.true))

pub returns-then-room-needed : goal.returns-then-room-needed
returns-then-room-needed c =
    let waits = own_waits _ _ _ c.session_at.ensures.0 c.from_bytes-own.ensures.0 _ c.is_waiting.ensures in
    let needs = own_needs _ _ _ c.session_at.ensures.0 c.from_bytes-own.ensures.0 _ c.needed.ensures in
    collect_rest _ _ _ c.in_ok-stopped_by_session.ensures _ _ (collect_no_room _ _ (waits ∙ c.if-not-is_waiting.false) _ needs c.if-room-needed.true)

pub returns : goal.returns
returns c =
    let waits = own_waits _ _ _ c.session_at.ensures.0 c.from_bytes-own.ensures.0 _ c.is_waiting.ensures in
    let needs = own_needs _ _ _ c.session_at.ensures.0 c.from_bytes-own.ensures.0 _ c.needed.ensures in
    collect_rest _ _ _ c.in_ok-stopped_by_session.ensures _ _ (may_collect _ _ (waits ∙ c.if-not-is_waiting.false) _ needs c.if-room-needed.false)
