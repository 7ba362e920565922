use mathlib.Core.Path.{refl, sym, ap, ◌∙◌}
use mathlib.Core.Bool.{◌&&◌}
use mathlib.Core.List.{List}
use Prim.Native.Nat.{ℕ}
use lib.ListN.{length}
use native.Mathlib.Omega.{arith}
use Rattle.std.proofs.lemmas.Result.{err_from_is_err_and}
use Rattle.carts.proofs.RefusalLaws.{refuses}
use Rattle.replication.specs.Log.{log_count}
use Rattle.replication.specs.Values.{are_level, whole_from}
use Rattle.replication.specs.Rows.{memory_rows, load_stop}
use Rattle.replication.proofs.RowLaws.{stops_first}
use Rattle.replication.proofs.DecideLaws.{memory_formed}
use Rattle.replication.proofs.Formed.{few}
use Rattle.replication.proofs.LogLaws.{log_walkable, log_usable}
use Rattle.replication.proofs.LoadLaws.{not_whole, all_whole}
use Rattle.replication.proofs.load.decide_load.Goals as goal

pub returns-in_err-stopped_by_memory : goal.returns-in_err-stopped_by_memory
unfolding load_stop
returns-in_err-stopped_by_memory c =
    let p = err_from_is_err_and c.from_residual.result c.from_residual.ensures.1 in
    rw (p.1, p.2) (stops_first (memory_rows _ _) _ _ c.in_err-stopped_by_memory.ensures (refuses _))

pub copy_at-requires : goal.copy_at-requires
copy_at-requires c = let f = memory_formed _ _ _ c.in_ok-stopped_by_memory.ensures refl in (f.library.size, omega arith)

pub copy_from_slice-requires : goal.copy_from_slice-requires
copy_from_slice-requires c = sym c.copy_at.ensures.1

pub slice_bounds-are_made-end : goal.slice_bounds-are_made-end
slice_bounds-are_made-end c = sym (ap length c.copy_from_slice.ensures.after ∙ c.copy_at.ensures.1)

pub are_made-requires : goal.are_made-requires
are_made-requires c =
    let f = memory_formed _ _ _ c.in_ok-stopped_by_memory.ensures refl in
    record { lengths = (f.library.size, (f.log.size, (ap length c.copy_from_slice.ensures.after ∙ c.copy_at.ensures.1, few _ _ f))); chain = (log_walkable _ _ f _ (omega arith), log_usable _ _ f) }

-- the walk begins with the sixth copy
pub returns-then-not-are_made : goal.returns-then-not-are_made
returns-then-not-are_made c =
    let g = c.args.system.now in
    let walked = sym (c.are_made.ensures ∙ ap (λ (x : List ℕ). are_level g.control g.library.now x g.control.retired
    && whole_from g.control g.library.now g.log.now (log_count g.control) g.control.retired g.control.oldest x) (c.copy_from_slice.ensures.after ∙ c.copy_at.ensures.0)) in
    not_whole _ _ (memory_formed _ _ _ c.in_ok-stopped_by_memory.ensures refl) _ c.in_ok-stopped_by_memory.ensures refl (walked ∙ c.if-not-are_made.true)

pub returns : goal.returns
returns c =
    let g = c.args.system.now in
    let walked = sym (c.are_made.ensures ∙ ap (λ (x : List ℕ). are_level g.control g.library.now x g.control.retired
    && whole_from g.control g.library.now g.log.now (log_count g.control) g.control.retired g.control.oldest x) (c.copy_from_slice.ensures.after ∙ c.copy_at.ensures.0)) in
    all_whole _ _ (memory_formed _ _ _ c.in_ok-stopped_by_memory.ensures refl) _ c.in_ok-stopped_by_memory.ensures refl (walked ∙ c.if-not-are_made.false)
