use mathlib.Core.Path.{sym, ◌∙◌}
use Rattle.std.proofs.lemmas.Result.{err_from_is_err_and}
use Rattle.carts.proofs.RefusalLaws.{refuses}
use Rattle.replication.specs.System.{memory_of}
use Rattle.replication.specs.Rows.{read_rows, read_stop}
use Rattle.replication.proofs.RowLaws.{session_numbered}
use Rattle.replication.proofs.DecideLaws.{by_first}
use Rattle.replication.proofs.ReadLaws.{read_rest, read_waiting, read_unformed, read_no_room, may_read}
use Rattle.replication.proofs.SessionLaws.{own_waits, needs_is, session_found, request_parts}
use Rattle.replication.proofs.read.decide_read.Goals as goal

pub returns-in_err-stopped_by_session : goal.returns-in_err-stopped_by_session
unfolding read_stop read_rows
returns-in_err-stopped_by_session c =
    let p = err_from_is_err_and c.from_residual.result c.from_residual.ensures.1 in
    rw (p.1, p.2) (by_first _ _ _ _ (session_numbered _ _) _ c.in_err-stopped_by_session.ensures (refuses _))

pub session_at-requires : goal.session_at-requires
session_at-requires c = session_found c.args.system.now.control (memory_of c.args.system.now) _ c.in_ok-stopped_by_session.ensures

pub returns-then-is_waiting : goal.returns-then-is_waiting
returns-then-is_waiting c =
    let waits = own_waits _ _ _ c.session_at.ensures.0 c.from_bytes-own.ensures.0 _ c.is_waiting.ensures in
    read_rest _ _ _ c.in_ok-stopped_by_session.ensures _ _ _ (read_waiting _ _ _ (waits ∙ c.if-is_waiting.true))

pub returns-then-not-is_request : goal.returns-then-not-is_request
returns-then-not-is_request c =
    let waits = own_waits _ _ _ c.session_at.ensures.0 c.from_bytes-own.ensures.0 _ c.is_waiting.ensures in
    read_rest _ _ _ c.in_ok-stopped_by_session.ensures _ _ _ (read_unformed _ _ _ (waits ∙ c.if-is_waiting.false) (sym c.is_request.ensures ∙ c.if-not-is_request.true))

pub from_bytes-asked-requires : goal.from_bytes-asked-requires
from_bytes-asked-requires c = (request_parts _ (sym c.is_request.ensures ∙ c.if-not-is_request.false)).0

pub returns-then-room-needed : goal.returns-then-room-needed
returns-then-room-needed c =
    let waits = own_waits _ _ _ c.session_at.ensures.0 c.from_bytes-own.ensures.0 _ c.is_waiting.ensures in
    let needs = needs_is _ _ c.from_bytes-asked.ensures.0 _ c.needed.ensures in
    read_rest _ _ _ c.in_ok-stopped_by_session.ensures _ _ _
    (read_no_room _ _ _ (waits ∙ c.if-is_waiting.false) (sym c.is_request.ensures ∙ c.if-not-is_request.false) _ needs c.if-room-needed.true)

pub returns : goal.returns
returns c =
    let waits = own_waits _ _ _ c.session_at.ensures.0 c.from_bytes-own.ensures.0 _ c.is_waiting.ensures in
    let needs = needs_is _ _ c.from_bytes-asked.ensures.0 _ c.needed.ensures in
    read_rest _ _ _ c.in_ok-stopped_by_session.ensures _ _ _
    (may_read _ _ _ (waits ∙ c.if-is_waiting.false) (sym c.is_request.ensures ∙ c.if-not-is_request.false) _ needs c.if-room-needed.false)
