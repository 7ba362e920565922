use Rattle.std.proofs.Common.{arith, sym, ap, ◌∙◌}
use Rattle.carts.specs.Bytes.{zeros}
use Rattle.edit_log.specs.Log.{record_at, with_record}
use Rattle.edit_log.proofs.UpFromLaws.{fresh_start, blank_start, free_one, blank_one, free_done}
use Rattle.edit_log.proofs.fresh.make_fresh.Goals as goal

pub loop-r-init : goal.loop-r-init
loop-r-init c = let e = c.clear.ensures ∙ ap zeros c.requires in (c.clear.auto.dst ∙ c.requires, (fresh_start _ e, blank_start _ e))

pub loop-r-preserved : goal.loop-r-preserved
unfolding record_at with_record
loop-r-preserved c =
    let v = c.loop-r.invariant in
    let new = c.put.ensures in (
      c.put.auto.cells ∙ v.0,
      (v.1.0 ∙ free_one c.loop-r.r c.loop-r.log v.0 (omega arith) (omega arith) v.1.1 _ _ new c.next_free.ensures.0, blank_one c.loop-r.r c.loop-r.log v.0 (omega arith) (omega arith) v.1.1 _ _ new),
    )

pub returns : goal.returns
returns c = sym (c.loop-r.invariant.1.0 ∙ free_done _ _ (omega arith))
