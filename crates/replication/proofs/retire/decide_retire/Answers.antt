use mathlib.Core.Path.{refl, sym, ◌∙◌}
use native.Mathlib.Omega.{arith}
use Rattle.std.proofs.lemmas.Result.{err_from_is_err_and}
use Rattle.carts.proofs.RefusalLaws.{refuses}
use Rattle.replication.specs.Rows.{memory_rows, retire_stop}
use Rattle.replication.proofs.RowLaws.{stops_first}
use Rattle.replication.proofs.DecideLaws.{memory_formed}
use Rattle.replication.proofs.Formed.{few, retired_known}
use Rattle.replication.proofs.RetireLaws.{none_there, still_needed, may_retire}
use Rattle.replication.proofs.retire.decide_retire.Goals as goal

pub returns-in_err-stopped_by_memory : goal.returns-in_err-stopped_by_memory
unfolding retire_stop
returns-in_err-stopped_by_memory c =
    let p = err_from_is_err_and c.from_residual.result c.from_residual.ensures.1 in
    rw (p.1, p.2) (stops_first (memory_rows _ _) _ _ c.in_err-stopped_by_memory.ensures (refuses _))

pub returns-then-system : goal.returns-then-system
returns-then-system c = none_there _ _ _ c.in_ok-stopped_by_memory.ensures refl (omega (arith, c.if-system.true))

pub have_applied-requires : goal.have_applied-requires
have_applied-requires c = few _ _ (memory_formed _ _ _ c.in_ok-stopped_by_memory.ensures refl)

pub returns-then-not-have_applied : goal.returns-then-not-have_applied
returns-then-not-have_applied c =
    still_needed _ _ _ c.in_ok-stopped_by_memory.ensures refl
    (omega (arith, c.if-system.false, retired_known _ _ (memory_formed _ _ _ c.in_ok-stopped_by_memory.ensures refl))) (sym c.have_applied.ensures ∙ c.if-not-have_applied.true)

pub returns : goal.returns
returns c =
    may_retire _ _ _ c.in_ok-stopped_by_memory.ensures refl
    (omega (arith, c.if-system.false, retired_known _ _ (memory_formed _ _ _ c.in_ok-stopped_by_memory.ensures refl))) (sym c.have_applied.ensures ∙ c.if-not-have_applied.false)
