use Rattle.std.proofs.Common.{◌||◌, ◌/◌, length, refl, ap, ◌∙◌}
use Rattle.std.proofs.lemmas.List.{length_push}
use native.Mathlib.Nat.{sub-zero}
use Rattle.carts.specs.Operation.{spaced, operations_of}
use Rattle.carts.proofs.ChunkLaws.{chunk_turn, chunk_end}
use Rattle.carts.proofs.OperationLaws.{fields_at}
use Rattle.carts.proofs.RecordLaws.{any_more, any_done}
use Rattle.carts.proofs.operation.any_spaced.Goals as goal

pub loop-op-init : goal.loop-op-init
unfolding operations_of
loop-op-init c = (record { size = cc; rest = cc }, rw sub-zero refl)

pub is_spaced-found-requires : goal.is_spaced-found-requires
is_spaced-found-requires c = let ops = c.args.ops.now in
    let i = length c.loop-op.yielded in
    let t = chunk_turn i ops c.loop-op.op-iterator c.next.new.self c.in-Some.op c.loop-op.invariant.0 c.in-Some.ensures.steps in
    (t.size, rw t.part (fields_at ops c.requires i t.below))

pub loop-op-preserved : goal.loop-op-preserved
loop-op-preserved c = let ops = c.args.ops.now in
    let i = length c.loop-op.yielded in
    let found = c.loop-op.found in
    let t = chunk_turn i ops c.loop-op.op-iterator c.next.new.self c.in-Some.op c.loop-op.invariant.0 c.in-Some.ensures.steps in
    rw length_push (t.passed, any_more spaced 80 (length ops / 80) i ops found t.below c.loop-op.invariant.1 (ap (λ b. found || b) (c.is_spaced-found.ensures ∙ ap spaced t.part)))

pub returns : goal.returns
returns c = let ops = c.args.ops.now in
    let i = length c.loop-op.yielded in
    any_done spaced 80 (length ops / 80) i ops c.loop-op.found (chunk_end i ops c.loop-op.op-iterator c.next.new.self c.loop-op.invariant.0 c.in-None.ensures.steps) c.loop-op.invariant.1
