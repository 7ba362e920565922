use Rattle.std.proofs.Common.{◌&&◌, ◌+◌, ◌-◌, ◌*◌, ◌/◌, length, take, drop, refl, sym, ap, ◌∙◌}
use Rattle.std.proofs.lemmas.List.{length_push}
use native.Mathlib.Nat.{sub-zero}
use Rattle.carts.specs.Bytes.{parts}
use Rattle.carts.specs.Operation.{operations_of, meets, act, meets_all}
use Rattle.carts.proofs.ChunkLaws.{chunk_turn, chunk_end}
use Rattle.carts.proofs.OperationLaws.{op_ready, fields_next, meets_next, act_next, meets_end, act_end}
use Rattle.carts.proofs.ScanLaws.{test_more, test_end}
use Rattle.carts.proofs.operation.try_all.Goals as goal

pub loop-operation-init : goal.loop-operation-init
unfolding operations_of
loop-operation-init c = rw sub-zero (record { passed = record { size = cc; rest = cc }; size = c.requires.0; fields = c.requires.1; met = refl; acted = refl })

pub meets-ok-requires-clause-number : goal.meets-ok-requires-clause-number
meets-ok-requires-clause-number c =
    let ops = c.args.ops.now in
    let i = length c.loop-operation.yielded in
    let t = chunk_turn i ops c.loop-operation.operation-iterator c.next.new.self c.in-Some.operation c.loop-operation.invariant.passed c.in-Some.ensures.steps in
    rw t.part ((op_ready ops i t.below c.loop-operation.invariant.fields).1)

pub apply-requires-clause-number : goal.apply-requires-clause-number
apply-requires-clause-number c =
    let ops = c.args.ops.now in
    let i = length c.loop-operation.yielded in
    let t = chunk_turn i ops c.loop-operation.operation-iterator c.next.new.self c.in-Some.operation c.loop-operation.invariant.passed c.in-Some.ensures.steps in
    rw t.part ((op_ready ops i t.below c.loop-operation.invariant.fields).1)

pub loop-operation-preserved : goal.loop-operation-preserved
loop-operation-preserved c =
    let ops = c.args.ops.now in
    let i = length c.loop-operation.yielded in
    let n = length ops / 80 in
    let copy = c.loop-operation.copy in
    let op = take 80 (drop (80 * i) ops) in
    let left = parts 80 (n - (i + 1)) (drop (80 * (i + 1)) ops) in
    let t = chunk_turn i ops c.loop-operation.operation-iterator c.next.new.self c.in-Some.operation c.loop-operation.invariant.passed c.in-Some.ensures.steps in
    let e = rw t.part at c.apply.ensures in
    let m = rw t.part at c.meets-ok.ensures in
    rw length_push (record {
      passed = t.passed;
      size = c.apply.auto.copy ∙ c.loop-operation.invariant.size;
      fields = (fields_next n i ops t.below c.loop-operation.invariant.fields).1;
      met = rw e (test_more c.loop-operation.ok (meets copy op) (meets_all (act copy op) left) c.loop-operation.invariant.met (meets_next n i ops t.below copy) (ap (λ b. c.loop-operation.ok && b) m));
      acted = rw e (c.loop-operation.invariant.acted ∙ act_next n i ops t.below copy);
    })

pub returns : goal.returns
returns c =
    let ops = c.args.ops.now in
    let i = length c.loop-operation.yielded in
    let n = length ops / 80 in
    let h = chunk_end i ops c.loop-operation.operation-iterator c.next.new.self c.loop-operation.invariant.passed c.in-None.ensures.steps in
    (test_end c.loop-operation.ok c.loop-operation.invariant.met (meets_end n i (drop (80 * i) ops) c.loop-operation.copy h), sym (c.loop-operation.invariant.acted ∙ act_end n i (drop (80 * i) ops) c.loop-operation.copy h))
