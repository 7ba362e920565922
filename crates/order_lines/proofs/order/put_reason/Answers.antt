use Rattle.std.proofs.Common.{refl, append_assoc}
use Rattle.journal.proofs.KindLaws.{same_kind}
use Rattle.order_lines.specs.Order.{reason_text}
use Rattle.order_lines.proofs.order.put_reason.Goals as goal

pub returns-then-eq-next : goal.returns-then-eq-next
unfolding reason_text
returns-then-eq-next c = let h = rw (c.eq.ensures, same_kind) at c.if-eq-next.true in rw (c.put_pair.ensures.text, h, append_assoc) refl
