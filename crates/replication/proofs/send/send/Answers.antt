use mathlib.Core.Path.{refl, ap}
use Prim.Native.Nat.{ℕ, ◌+◌}
use native.Mathlib.Omega.{arith}
use Rattle.carts.proofs.RefusalLaws.{refuses}
use Rattle.replication.proofs.SendLaws.{send_refused, send_known, send_accepted}
use Rattle.replication.proofs.send.send.Goals as goal

pub returns-in-Err : goal.returns-in-Err
returns-in-Err c = send_refused _ _ _ _ c.in-Err.ensures (refuses _)

pub sent_to-n-requires : goal.sent_to-n-requires
sent_to-n-requires c = (send_known _ _ _ _ c.in_default.ensures refl).0

pub overflow_add-n : goal.overflow_add-n
overflow_add-n c = let k = (send_known _ _ _ _ c.in_default.ensures refl).1 in omega (arith, c.sent_to-n.ensures)

pub with_sent-requires : goal.with_sent-requires
with_sent-requires c = (send_known _ _ _ _ c.in_default.ensures refl).0

pub returns : goal.returns
returns c = send_accepted _ _ _ _ c.in_default.ensures refl _ (ap (λ (n : ℕ). n + 1) c.sent_to-n.ensures) _ c.with_sent.ensures
