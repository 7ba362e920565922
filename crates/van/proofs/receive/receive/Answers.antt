use Prim.Native.Nat.{◌<◌, ◌≤◌}
use native.Mathlib.Omega.{arith}
use mathlib.Core.Path.{refl}
use Rattle.carts.proofs.RefusalLaws.{refuses}
use Rattle.van.proofs.ReceiveLaws.{receive_refused, receive_known, receive_held, receive_applied}
use Rattle.van.proofs.receive.receive.Goals as goal

pub returns-in-Err : goal.returns-in-Err
returns-in-Err c = receive_refused _ _ _ _ c.in-Err.ensures (refuses _)

pub number_of-n-requires : goal.number_of-n-requires
number_of-n-requires c = omega (arith, ((receive_known _ _ _ _ c.in_default.ensures refl)).head)

pub returns-then-n-applied : goal.returns-then-n-applied
returns-then-n-applied c = let old : c.number_of-n.result ≤ c.args.applied = omega (arith, c.if-n-applied.true) in
    receive_held _ _ _ _ c.in_default.ensures refl _ c.number_of-n.ensures.0 old

pub slice_bounds-apply_all-count : goal.slice_bounds-apply_all-count
slice_bounds-apply_all-count c = omega (arith, ((receive_known _ _ _ _ c.in_default.ensures refl)).head)

pub slice_bounds-apply_all-start : goal.slice_bounds-apply_all-start
slice_bounds-apply_all-start c = let h = ((receive_known _ _ _ _ c.in_default.ensures refl)).head in omega arith

pub slice_bounds-apply_all-end : goal.slice_bounds-apply_all-end
slice_bounds-apply_all-end c = omega (arith, ((receive_known _ _ _ _ c.in_default.ensures refl)).head)

pub apply_all-requires : goal.apply_all-requires
apply_all-requires c = let k = (receive_known _ _ _ _ c.in_default.ensures refl) in (k.size, k.operations)

pub returns : goal.returns
returns c = let next : c.args.applied < c.number_of-n.result = omega (arith, c.if-n-applied.false) in
    receive_applied _ _ _ _ c.in_default.ensures refl _ c.number_of-n.ensures.0 next _ c.apply_all.ensures
