use Rattle.std.proofs.Common.{arith, sym, ap, ◌∙◌}
use Rattle.edit_log.specs.declared.record.Record.{Record}
use Rattle.edit_log.proofs.FreeLaws.{none_left, free_end, ending_in, size_next, ending_next, free_next, back_next, one_fewer, fewer_next, freed_is}
use Rattle.edit_log.proofs.free.free_all.Goals as goal

pub at-next-requires : goal.at-next-requires
at-next-requires c = (c.loop-r.invariant.0, ending_in c.loop-r.log c.loop-r.r (omega arith) c.loop-r.invariant.1)

pub free_record-requires : goal.free_record-requires
free_record-requires c = let i = ending_in c.loop-r.log c.loop-r.r (omega arith) c.loop-r.invariant.1 in (c.loop-r.invariant.0, (i.0, (i.1, c.at-next.ensures.1.0)))

pub loop-r-smaller : goal.loop-r-smaller
loop-r-smaller c = fewer_next c.loop-r.log c.loop-r.r (omega arith) c.loop-r.invariant.1 c.loop-r.invariant.0 _ (ap (λ (x : Record). x.next_operation) c.at-next.ensures.0) _ c.free_record.ensures

pub loop-r-preserved : goal.loop-r-preserved
loop-r-preserved c =
    let v = c.loop-r.invariant in
    let next = ap (λ (x : Record). x.next_operation) c.at-next.ensures.0 in
    let new = c.free_record.ensures in
    let log = c.loop-r.log in
    let r = c.loop-r.r in
    let fewer = one_fewer log r (omega arith) v.1 v.0 _ next _ new in
    let e = v.4 in (
      size_next log r (omega arith) v.1 v.0 _ next _ new,
      ending_next log r (omega arith) v.1 v.0 _ next _ new,
      v.2 ∙ free_next log r (omega arith) v.1 v.0 _ next _ new,
      v.3 ∙ back_next log r (omega arith) v.1 v.0 _ next _ new c.loop-r.last,
      omega arith,
      v.5,
    )

pub returns : goal.returns
returns c =
    let e = free_end c.loop-r.log c.loop-r.r (omega arith) in
    let z = none_left c.loop-r.log c.loop-r.r (omega arith) in
    let n = c.loop-r.invariant.4 in
    (sym (c.loop-r.invariant.2 ∙ e.0), freed_is _ _ c.loop-r.count c.loop-r.last (omega arith) (sym (c.loop-r.invariant.3 ∙ e.1 c.loop-r.last)))
