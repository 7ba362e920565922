use mathlib.Core.Path.{refl, sym, ◌∙◌}
use Rattle.std.proofs.lemmas.Result.{err_from_is_err_and}
use Rattle.carts.proofs.RefusalLaws.{refuses}
use Rattle.replication.specs.Rows.{memory_rows}
use Rattle.replication.proofs.RowLaws.{stops_first}
use Rattle.van.proofs.WriteLaws.{number_retired, number_wrong, number_right}
use Rattle.van.proofs.write.stopped_by_number.Goals as goal

pub returns-in_err-stopped_by_memory : goal.returns-in_err-stopped_by_memory
returns-in_err-stopped_by_memory c =
    let p = err_from_is_err_and c.from_residual.result c.from_residual.ensures.1 in
    rw (p.1, p.2) (stops_first (memory_rows _ _) _ _ c.in_err-stopped_by_memory.ensures (refuses _))

pub returns-then-is_within : goal.returns-then-is_within
returns-then-is_within c = number_retired _ _ _ _ c.in_ok-stopped_by_memory.ensures refl (sym c.is_within.ensures ∙ c.if-is_within.true)

pub returns-then-not-is_within : goal.returns-then-not-is_within
returns-then-not-is_within c =
    number_wrong _ _ _ _ c.in_ok-stopped_by_memory.ensures refl (sym c.is_within.ensures ∙ c.if-is_within.false) (sym c.is_within-2.ensures ∙ c.if-not-is_within.true)

pub returns : goal.returns
returns c =
    number_right _ _ _ _ c.in_ok-stopped_by_memory.ensures refl (sym c.is_within.ensures ∙ c.if-is_within.false) (sym c.is_within-2.ensures ∙ c.if-not-is_within.false)
