use Rattle.std.proofs.Common.{refl, append_assoc}
use borrow.Author.Tests.{eq-eqb, ne_eqb}
use Rattle.order_lines.specs.Order.{request_text}
use Rattle.order_lines.proofs.order.put_request.Goals as goal

pub returns-then-request-eq1 : goal.returns-then-request-eq1
unfolding request_text
returns-then-request-eq1 c = rw (c.put_asked.ensures.text, c.put.ensures.text, c.byte_at-n.ensures.0, eq-eqb _ 1 c.if-request-eq1.true, append_assoc) refl

pub returns-else-request-eq1 : goal.returns-else-request-eq1
unfolding request_text
returns-else-request-eq1 c = rw (c.put_title.ensures.text, c.put-else-request-eq1.ensures.text, c.byte_at-n.ensures.0, ne_eqb _ 1 c.if-request-eq1.false, append_assoc) refl
