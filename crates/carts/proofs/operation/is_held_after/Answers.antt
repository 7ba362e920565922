use Rattle.std.proofs.Common.{◌≡◌, ◌*◌, length, take, drop, sym, ap, ◌∙◌, arith}
use Rattle.std.proofs.lemmas.List.{length_push}
use Rattle.carts.specs.Bytes.{parts}
use Rattle.carts.specs.Cart.{cart_at, held}
use Rattle.carts.specs.Operation.{act_all}
use Rattle.carts.proofs.ChunkLaws.{chunk_turn, first_end}
use Rattle.carts.proofs.StateLaws.{held_then, act_none, held_more}
use Rattle.carts.proofs.operation.is_held_after.Goals as goal

pub loop-op-init : goal.loop-op-init
loop-op-init c =
    let n : c.into_iter-op-iterator.result.n ≡ c.args.n = cc in
    (record { size = cc; rest = cc }, omega arith, c.is_held-state.ensures ∙ ap held c.cart_at.ensures.0 ∙ ap (λ copy. held (cart_at copy c.args.c)) (sym (act_none c.args.copy.now c.args.ops.now)))

pub is_held_then-state-requires : goal.is_held_then-state-requires
is_held_then-state-requires c =
    (chunk_turn (length c.loop-op.yielded) c.args.ops.now c.loop-op.op-iterator.iter c.next.new.self.iter c.in-Some.op c.loop-op.invariant.0 c.in-Some.ensures.steps.0).size

pub loop-op-preserved : goal.loop-op-preserved
loop-op-preserved c =
    let copy = c.args.copy.now in
    let ops = c.args.ops.now in
    let i = length c.loop-op.yielded in
    let t = chunk_turn i ops c.loop-op.op-iterator.iter c.next.new.self.iter c.in-Some.op c.loop-op.invariant.0 c.in-Some.ensures.steps.0 in
    let e = rw t.part at c.is_held_then-state.ensures in
    rw length_push (t.passed, omega (arith, c.in-Some.ensures.steps.1), e ∙ ap (λ b. held_then (take 80 (drop (80 * i) ops)) c.args.c b) c.loop-op.invariant.2 ∙ sym (held_more copy ops c.requires.lengths.0 c.requires.lengths.1 i t.below c.args.c c.requires.places.1.0))

pub returns : goal.returns
returns c =
    let ops = c.args.ops.now in
    let i = length c.loop-op.yielded in
    let e = first_end c.loop-op.op-iterator.n c.args.n i ops c.loop-op.op-iterator.iter c.next.new.self.iter c.loop-op.invariant.0 c.in-None.ensures.steps c.loop-op.invariant.1 c.requires.places.0 in
    c.loop-op.invariant.2 ∙ ap (λ k. held (cart_at (act_all c.args.copy.now (parts 80 k ops)) c.args.c)) e
