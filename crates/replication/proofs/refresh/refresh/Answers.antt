use mathlib.Core.Path.{refl, ap}
use Prim.Native.Nat.{ℕ, ◌+◌}
use native.Mathlib.Omega.{arith}
use Rattle.carts.proofs.RefusalLaws.{refuses}
use Rattle.replication.proofs.LayoutLaws.{length_lent}
use Rattle.replication.proofs.RefreshLaws.{refresh_refused, refresh_known, refresh_accepted, library_after}
use Rattle.replication.proofs.refresh.refresh.Goals as goal

pub returns-in-Err : goal.returns-in-Err
returns-in-Err c = refresh_refused _ _ _ _ c.in-Err.ensures (refuses _)

pub applied_by-applied-requires : goal.applied_by-applied-requires
applied_by-applied-requires c = let k = refresh_known _ _ _ _ c.in_default.ensures refl in (k.low, k.high)

pub transaction_after-first-requires : goal.transaction_after-first-requires
transaction_after-first-requires c =
    let k = refresh_known _ _ _ _ c.in_default.ensures refl in
    record { kept = (k.log, rw c.applied_by-applied.ensures k.kept); reached = rw c.applied_by-applied.ensures k.walks }

pub slice_bounds-apply_transaction-end : goal.slice_bounds-apply_transaction-end
slice_bounds-apply_transaction-end c = let k = refresh_known _ _ _ _ c.in_default.ensures refl in omega (arith, k.library, k.high)

pub apply_transaction-requires : goal.apply_transaction-requires
apply_transaction-requires c =
    let k = refresh_known _ _ _ _ c.in_default.ensures refl in
    let g = c.args in
    (length_lent 10240 g.studio g.library.now (omega (arith, k.library, k.high)), (k.log, rw (c.transaction_after-first.ensures, c.applied_by-applied.ensures) k.acts))

pub overflow_add-n : goal.overflow_add-n
overflow_add-n c = let k = refresh_known _ _ _ _ c.in_default.ensures refl in omega (arith, k.few, c.applied_by-applied.ensures)

pub with_applied-requires : goal.with_applied-requires
with_applied-requires c = let k = refresh_known _ _ _ _ c.in_default.ensures refl in (k.low, k.high)

pub returns : goal.returns
returns c =
    let g = c.args in
    refresh_accepted _ _ _ _ c.in_default.ensures refl _ (ap (λ (n : ℕ). n + 1) c.applied_by-applied.ensures) _ c.with_applied.ensures _
    (library_after g.library.now g.log.now g.studio _ _ _ _ _ _ c.apply_transaction.ensures c.transaction_after-first.ensures c.applied_by-applied.ensures)
