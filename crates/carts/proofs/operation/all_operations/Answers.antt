use Rattle.std.proofs.Common.{◌&&◌, ◌/◌, length, ap, ◌∙◌}
use Rattle.std.proofs.lemmas.List.{length_push}
use native.Mathlib.Nat.{sub-zero}
use Rattle.carts.specs.Operation.{operation_form, operations_of}
use Rattle.carts.proofs.ChunkLaws.{chunk_turn, chunk_end}
use Rattle.carts.proofs.RecordLaws.{each_more, each_done, every_parts}
use Rattle.carts.proofs.operation.all_operations.Goals as goal

pub loop-op-init : goal.loop-op-init
unfolding operations_of
loop-op-init c = let ops = c.args.ops.now in
    (record { size = cc; rest = cc }, rw sub-zero (every_parts operation_form 80 (length ops / 80) 0 ops))

pub is_operation-ok-requires : goal.is_operation-ok-requires
is_operation-ok-requires c = (chunk_turn (length c.loop-op.yielded) c.args.ops.now c.loop-op.op-iterator c.next.new.self c.in-Some.op c.loop-op.invariant.0 c.in-Some.ensures.steps).size

pub loop-op-preserved : goal.loop-op-preserved
loop-op-preserved c = let ops = c.args.ops.now in
    let i = length c.loop-op.yielded in
    let ok = c.loop-op.ok in
    let t = chunk_turn i ops c.loop-op.op-iterator c.next.new.self c.in-Some.op c.loop-op.invariant.0 c.in-Some.ensures.steps in
    let form = c.is_operation-ok.ensures ∙ ap operation_form t.part in
    rw length_push (t.passed, each_more (λ k. operation_form) 80 (length ops / 80) i i ops ok t.below c.loop-op.invariant.1 (ap (λ b. ok && b) form))

pub returns : goal.returns
returns c = let ops = c.args.ops.now in
    let i = length c.loop-op.yielded in
    each_done (λ k. operation_form) 80 (length ops / 80) i i ops c.loop-op.ok (chunk_end i ops c.loop-op.op-iterator c.next.new.self c.loop-op.invariant.0 c.in-None.ensures.steps) c.loop-op.invariant.1
