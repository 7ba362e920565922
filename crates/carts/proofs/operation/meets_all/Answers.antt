use Rattle.std.proofs.Common.{◌≡◌, ◌&&◌, ◌+◌, ◌-◌, ◌*◌, ◌/◌, length, take, drop, refl, ap, arith}
use Rattle.std.proofs.lemmas.List.{length_push}
use native.Mathlib.Nat.{sub-zero}
use Rattle.carts.specs.Bytes.{parts}
use Rattle.carts.specs.Operation.{operations_of, meets, act, meets_all, act_all}
use Rattle.carts.proofs.ChunkLaws.{chunk_turn, chunk_end}
use Rattle.carts.proofs.OperationLaws.{meets_next, meets_end}
use Rattle.carts.proofs.ScanLaws.{test_more, test_end}
use Rattle.carts.proofs.StateLaws.{operation_here, meets_state, act_none, act_last}
use Rattle.carts.proofs.operation.meets_all.Goals as goal

pub loop-i-init : goal.loop-i-init
unfolding operations_of
loop-i-init c = (record { size = cc; rest = cc }, cc, rw (sub-zero, act_none) refl)

pub is_held_after-held-requires-clause-places : goal.is_held_after-held-requires-clause-places
is_held_after-held-requires-clause-places c =
    let ops = c.args.ops.now in
    let i = length c.loop-i.yielded in
    let t = chunk_turn i ops c.loop-i.i-iterator.iter c.next.new.self.iter c.in-Some.op c.loop-i.invariant.0 c.in-Some.ensures.steps.0 in
    let r = operation_here c.args.copy.now ops c.requires.0 c.requires.1 i t.below in
    let n = rw t.part at c.u16_at.ensures.0 in
    (omega (arith, t.below, c.in-Some.ensures.steps.1), rw n r.1)

pub loop-i-preserved : goal.loop-i-preserved
loop-i-preserved c =
    let ops = c.args.ops.now in
    let i = length c.loop-i.yielded in
    let n = length ops / 80 in
    let copy = act_all c.args.copy.now (parts 80 i ops) in
    let op = take 80 (drop (80 * i) ops) in
    let left = parts 80 (n - (i + 1)) (drop (80 * (i + 1)) ops) in
    let t = chunk_turn i ops c.loop-i.i-iterator.iter c.next.new.self.iter c.in-Some.op c.loop-i.invariant.0 c.in-Some.ensures.steps.0 in
    let at : c.in-Some.i ≡ i = omega (arith, c.in-Some.ensures.steps.1) in
    let h = rw at at c.is_held_after-held.ensures in
    let k = rw t.part at c.u16_at.ensures.0 in
    let r = rw t.part at c.is_right_state-ok.ensures in
    let m = meets_state copy op c.u16_at.result k h r in
    rw length_push (t.passed, omega (arith, c.in-Some.ensures.steps.2), rw (act_last i c.args.copy.now ops) (test_more c.loop-i.ok (meets copy op) (meets_all (act copy op) left) c.loop-i.invariant.2 (meets_next n i ops t.below copy) (ap (λ b. c.loop-i.ok && b) m)))

pub returns : goal.returns
returns c =
    let ops = c.args.ops.now in
    let i = length c.loop-i.yielded in
    let h = chunk_end i ops c.loop-i.i-iterator.iter c.next.new.self.iter c.loop-i.invariant.0 c.in-None.ensures.steps.0 in
    test_end c.loop-i.ok c.loop-i.invariant.2 (meets_end (length ops / 80) i (drop (80 * i) ops) (act_all c.args.copy.now (parts 80 i ops)) h)
