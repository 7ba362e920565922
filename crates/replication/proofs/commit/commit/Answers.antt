use mathlib.Core.Path.{refl, ap, ◌∙◌}
use native.Mathlib.Omega.{arith}
use Prim.Native.Nat.{ℕ}
use Rattle.carts.specs.Operation.{operations_of}
use Rattle.carts.proofs.PartLaws.{length_part}
use Rattle.carts.specs.Refusal.{refusal_number}
use Rattle.carts.proofs.RefusalLaws.{refuses}
use Rattle.edit_log.specs.Writes.{appended}
use Rattle.replication.proofs.CommitLaws.{told_known, commit_refused, commit_known, next_small, commit_accepted}
use Rattle.replication.proofs.commit.commit.Goals as goal

pub tell_session-requires : goal.tell_session-requires
tell_session-requires c = λ e. told_known _ _ _ _ _ c.in-Err.ensures (ap refusal_number e)

pub returns-in-Err : goal.returns-in-Err
returns-in-Err c = commit_refused _ _ _ _ _ c.in-Err.ensures (refuses _) _ c.tell_session.ensures

pub slice_bounds-apply_all-end : goal.slice_bounds-apply_all-end
slice_bounds-apply_all-end c = let k = (commit_known _ _ _ _ _ c.in_default.ensures refl).formed.library.size in omega arith

pub apply_all-requires : goal.apply_all-requires
apply_all-requires c =
    let k = commit_known _ _ _ _ _ c.in_default.ensures refl in
    let l = k.formed.library.size in
    (length_part c.args.library.now 0 10240 (omega arith), k.fields)

pub log_count-requires : goal.log_count-requires
log_count-requires c = (commit_known _ _ _ _ _ c.in_default.ensures refl).known

pub append_transaction-next-requires : goal.append_transaction-next-requires
append_transaction-next-requires c =
    let k = commit_known _ _ _ _ _ c.in_default.ensures refl in
    let small = k.small in
    record { room = (k.formed.log.size, (k.some, k.free)); chain = (rw c.log_count.ensures k.walks, omega arith) }

pub overflow_cast-operations : goal.overflow_cast-operations
overflow_cast-operations c = let k = (commit_known _ _ _ _ _ c.in_default.ensures refl).room in omega arith

pub committed-left-requires : goal.committed-left-requires
committed-left-requires c = let k = commit_known _ _ _ _ _ c.in_default.ensures refl in ((k.room, omega (arith, k.few)), k.known)

pub put_number-requires : goal.put_number-requires
put_number-requires c =
    let k = commit_known _ _ _ _ _ c.in_default.ensures refl in
    let small = next_small _ _ _ _ c.committed-left.ensures k.few in
    record { memory = (k.formed.sessions.size, k.session); number = small }

pub returns : goal.returns
returns c =
    commit_accepted _ _ _ _ _ c.in_default.ensures refl _ c.append_transaction-next.ensures.1 _ c.committed-left.ensures _ _ _ c.apply_all.ensures
    (c.append_transaction-next.ensures.0 ∙ ap (λ (k : ℕ). appended k c.args.log.now c.args.control.oldest c.args.control.free_first (operations_of c.args.operations.now)) c.log_count.ensures) c.put_number.ensures
