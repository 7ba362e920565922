-- The loop follows the chain and writes each operation to its place; what is still to write is `Texts log i r`.
use mathlib.Core.Path.{refl, ap, ◌∙◌}
use mathlib.Core.Bool.{true}
use Prim.Native.Nat.{◌+◌, ◌*◌, ◌-◌}
use native.Mathlib.Omega.{arith}
use borrow.Rule.Slice.PartMut.{same_len_mid}
use Rattle.edit_log.specs.Log.{records_of, transaction_at, handed_in}
use Rattle.edit_log.specs.declared.record.Record.{Record}
use Rattle.replication.proofs.LayoutLaws.{length_lent}
use Rattle.van.proofs.TransactionLaws.{some_left, less_left, here, later, all_left, whole_parts, some_of, put_start, put_more, put_end}
use Rattle.van.proofs.transaction.put_operations.Goals as goal

pub loop-i-init : goal.loop-i-init
unfolding records_of transaction_at
loop-i-init c = let n = c.requires.room in
    (refl, c.requires.chain.1, all_left _ _ n, put_start _ _ _ (whole_parts _ _ n))

pub record_at-requires : goal.record_at-requires
record_at-requires c = let u = (let k = (some_left _ c.loop-i.i c.loop-i.r (some_of _ _ _ c.loop-i-test.true c.loop-i.invariant.2)) in here _ c.loop-i.i c.loop-i.r k.0 k.1 c.loop-i.invariant.1) in (c.requires.chain.0, (u.low, u.high))

pub put_operation-requires : goal.put_operation-requires
put_operation-requires c = (length_lent 80 c.loop-i.i c.loop-i.places (omega arith), c.record_at.ensures.1)

pub at-r-requires : goal.at-r-requires
at-r-requires c = let u = (let k = (some_left _ c.loop-i.i c.loop-i.r (some_of _ _ _ c.loop-i-test.true c.loop-i.invariant.2)) in here _ c.loop-i.i c.loop-i.r k.0 k.1 c.loop-i.invariant.1) in (c.requires.chain.0, (u.low, u.high))

pub loop-i-preserved : goal.loop-i-preserved
loop-i-preserved c = let log = c.args.log.now in
    let i = c.loop-i.i in
    let r = c.loop-i.r in
    let h = c.loop-i-test.true in
    let some = (some_left _ c.loop-i.i c.loop-i.r (some_of _ _ _ h c.loop-i.invariant.2)) in
    let onward = ap (λ (x : Record). x.next_operation) c.at-r.ensures.0 in
    let place = c.put_operation.ensures ∙ ap handed_in c.record_at.ensures.0 in
    let size = c.put_operation.auto.place ∙ length_lent 80 i c.loop-i.places (omega arith) in (
      same_len_mid (80 * i) (80 * i + 80 - 80 * i) c.loop-i.places c.put_operation.new.place c.put_operation.auto.place ∙ c.loop-i.invariant.0,
      rw onward (later log i r some.0 some.1 c.loop-i.invariant.1),
      rw onward (less_left log i r some.0 some.1 _ c.loop-i.invariant.2),
      rw onward (put_more log _ i r c.loop-i.places c.put_operation.new.place some.0 some.1 h (omega arith) size place c.loop-i.invariant.3),
    )

pub returns : goal.returns
returns c = let t = c.loop-i in put_end _ _ t.i t.r t.places c.loop-i-test.false t.invariant.2 t.invariant.3
