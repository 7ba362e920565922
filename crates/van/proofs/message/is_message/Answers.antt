use mathlib.Core.Path.{sym, ◌∙◌}
use mathlib.Core.Bool.{true}
use native.Mathlib.Omega.{arith}
use Rattle.van.proofs.MessageLaws.{head_length, message_head, message_rest}
use Rattle.van.proofs.message.is_message.Goals as goal

pub returns-then-not-is_head : goal.returns-then-not-is_head
returns-then-not-is_head c = let r = c.is_head in sym (message_head _ (sym r.ensures ∙ c.if-not-is_head.true))

pub slice_bounds-all_operations-count : goal.slice_bounds-all_operations-count
slice_bounds-all_operations-count c = let l = head_length _ ((let r = c.is_head in sym r.ensures ∙ c.if-not-is_head.false)) in omega arith

pub slice_bounds-all_operations-start : goal.slice_bounds-all_operations-start
slice_bounds-all_operations-start c = let l = head_length _ ((let r = c.is_head in sym r.ensures ∙ c.if-not-is_head.false)) in omega arith

pub returns : goal.returns
returns c = message_rest _ ((let r = c.is_head in sym r.ensures ∙ c.if-not-is_head.false)) _ c.all_operations.ensures
