use mathlib.Core.Path.{refl}
use Rattle.std.proofs.lemmas.Result.{err_from_is_err_and}
use Rattle.carts.proofs.RefusalLaws.{refuses}
use Rattle.replication.proofs.DecideLaws.{by_memory, by_who}
use Rattle.replication.proofs.rows.stopped_by_session.Goals as goal

pub returns-in_err-stopped_by_memory : goal.returns-in_err-stopped_by_memory
returns-in_err-stopped_by_memory c =
    let p = err_from_is_err_and c.from_residual.result c.from_residual.ensures.1 in
    rw (p.1, p.2) (by_memory _ _ _ _ c.in_err-stopped_by_memory.ensures (refuses _))

pub returns : goal.returns
returns c = by_who _ _ _ _ c.in_ok-stopped_by_memory.ensures refl _ c.session_row.ensures
