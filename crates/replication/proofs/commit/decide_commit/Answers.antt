use mathlib.Core.Path.{refl}
use native.Mathlib.Omega.{arith}
use Rattle.std.proofs.lemmas.Result.{err_from_is_err_and}
use Rattle.carts.proofs.PartLaws.{length_part}
use Rattle.carts.proofs.RefusalLaws.{refuses}
use Rattle.replication.specs.Memory.{copy_at}
use Rattle.replication.specs.Rows.{commit_rows, commit_stop}
use Rattle.replication.proofs.RowLaws.{session_numbered}
use Rattle.replication.proofs.DecideLaws.{by_first, first_formed, first_who, known_session_law}
use Rattle.replication.proofs.SessionLaws.{session_placed}
use Rattle.replication.proofs.CommitLaws.{read_waits, operations_decide}
use Rattle.replication.proofs.LogLaws.{used_few}
use Rattle.replication.proofs.commit.decide_commit.Goals as goal

pub returns-in_err-stopped_by_session : goal.returns-in_err-stopped_by_session
unfolding commit_stop commit_rows
returns-in_err-stopped_by_session c =
    let p = err_from_is_err_and c.from_residual.result c.from_residual.ensures.1 in
    rw (p.1, p.2) (by_first _ _ _ _ (session_numbered _ _) _ c.in_err-stopped_by_session.ensures (refuses _))

pub has_waiting-requires : goal.has_waiting-requires
has_waiting-requires c =
    let e = c.in_ok-stopped_by_session.ensures in
    session_placed _ _ _ _ (first_formed _ _ _ _ e refl) (known_session_law _ _ (first_who _ _ _ _ e refl))

pub returns-then-has_waiting : goal.returns-then-has_waiting
returns-then-has_waiting c = read_waits _ _ _ _ _ c.in_ok-stopped_by_session.ensures refl _ c.has_waiting.ensures c.if-has_waiting.true

pub slice_bounds-stopped_by_operations-end : goal.slice_bounds-stopped_by_operations-end
slice_bounds-stopped_by_operations-end c = let k = (first_formed _ _ _ _ c.in_ok-stopped_by_session.ensures refl).library.size in omega arith

pub stopped_by_operations-requires : goal.stopped_by_operations-requires
stopped_by_operations-requires c =
    let f = first_formed _ _ _ _ c.in_ok-stopped_by_session.ensures refl in
    let k = f.library.size in
    (used_few _ _ f, length_part c.args.system.now.library.now 0 10240 (omega arith))

pub returns : goal.returns
unfolding copy_at
returns c = operations_decide _ _ _ _ _ c.in_ok-stopped_by_session.ensures refl _ c.has_waiting.ensures c.if-has_waiting.false _ c.stopped_by_operations.ensures
