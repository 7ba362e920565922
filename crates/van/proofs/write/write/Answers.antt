use mathlib.Core.Path.{ap, ap₂, ◌∙◌}
use mathlib.Core.List.{List}
use Prim.Native.Nat.{ℕ, ◌+◌, ◌-◌, ◌*◌, ◌<◌, ◌≤◌}
use native.Mathlib.Omega.{arith}
use lib.ListN.{length}
use mathlib.Core.Path.{refl}
use Rattle.carts.proofs.RefusalLaws.{refuses}
use Rattle.carts.specs.Bytes.{over}
use Rattle.van.proofs.WriteLaws.{length_places, write_refused, write_known, write_short, write_accepted}
use Rattle.van.proofs.write.write.Goals as goal

pub returns-in-Err : goal.returns-in-Err
returns-in-Err c = write_refused _ _ _ _ _ c.in-Err.ensures (refuses _)

pub overflow_sub-number : goal.overflow_sub-number
overflow_sub-number c = (write_known _ _ _ c.args.output.now _ c.in_default.ensures refl).low

pub transaction_after-first-requires : goal.transaction_after-first-requires
transaction_after-first-requires c = let k = (write_known _ _ _ c.args.output.now _ c.in_default.ensures refl) in record { kept = (k.log, k.kept); reached = k.walks }

pub count_operations-count-requires : goal.count_operations-count-requires
count_operations-count-requires c = let k = (write_known _ _ _ c.args.output.now _ c.in_default.ensures refl) in (k.log, rw c.transaction_after-first.ensures k.acts)

pub returns-then-output-size : goal.returns-then-output-size
returns-then-output-size c = let short : length c.args.output.now < 4 + 80 * c.count_operations-count.result = omega (arith, c.if-output-size.true) in
    write_short _ _ _ _ _ c.in_default.ensures refl _ _ c.transaction_after-first.ensures c.count_operations-count.ensures short

pub put_head-requires : goal.put_head-requires
put_head-requires c = let f : c.count_operations-count.result ≤ 8 = rw (c.count_operations-count.ensures, c.transaction_after-first.ensures) (write_known _ _ _ c.args.output.now _ c.in_default.ensures refl).short in
    let k = (write_known _ _ _ c.args.output.now _ c.in_default.ensures refl).few in
    (omega (arith, c.if-output-size.false), (omega arith, omega arith))

pub put_operations-requires : goal.put_operations-requires
put_operations-requires c = let k = (write_known _ _ _ c.args.output.now _ c.in_default.ensures refl) in
    let out = c.args.output.now in
    let room : 4 + 80 * c.count_operations-count.result ≤ length out = omega (arith, c.if-output-size.false) in
    record { chain = (k.log, rw c.transaction_after-first.ensures k.acts); room = length_places c.put_head.new.output out _ c.put_head.auto.output room ∙ ap (λ (j : ℕ). 80 * j) c.count_operations-count.ensures }

pub overflow_cast-result : goal.overflow_cast-result
overflow_cast-result c = let f : c.count_operations-count.result ≤ 8 = rw (c.count_operations-count.ensures, c.transaction_after-first.ensures) (write_known _ _ _ c.args.output.now _ c.in_default.ensures refl).short in omega arith

pub returns : goal.returns
returns c = let room : 4 + 80 * c.count_operations-count.result ≤ length c.args.output.now = omega (arith, c.if-output-size.false) in
    write_accepted _ _ _ _ _ c.in_default.ensures refl _ _ c.transaction_after-first.ensures c.count_operations-count.ensures room _
    (ap₂ (λ (s t : List ℕ). over s 4 (4 + 80 * c.count_operations-count.result - 4) t) c.put_head.ensures c.put_operations.ensures)
