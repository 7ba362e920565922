use mathlib.Core.Path.{sym, ap, ◌∙◌}
use mathlib.Core.Bool.{true}
use lib.Dec.{ltb}
use native.Mathlib.Omega.{arith}
use Rattle.van.proofs.MessageLaws.{head_length, form_head}
use Rattle.van.proofs.ReceiveLaws.{bad_message, bad_copy, ahead, next_or_held}
use Rattle.van.proofs.receive.decide_receive.Goals as goal

pub returns-then-not-is_message : goal.returns-then-not-is_message
returns-then-not-is_message c = let r = c.is_message in bad_message _ _ _ (sym r.ensures ∙ c.if-not-is_message.true)

pub returns-then-not-is_van_copy : goal.returns-then-not-is_van_copy
returns-then-not-is_van_copy c = let r = c.is_van_copy in bad_copy _ _ _ (sym r.ensures ∙ c.if-not-is_van_copy.true)

pub number_of-requires : goal.number_of-requires
number_of-requires c = let l = head_length _ (form_head _ ((let r = c.is_message in sym r.ensures ∙ c.if-not-is_message.false))) in omega arith

pub returns-then-is_ahead : goal.returns-then-is_ahead
returns-then-is_ahead c = ahead _ _ _ ((let r = c.is_message in sym r.ensures ∙ c.if-not-is_message.false)) ((let r = c.is_van_copy in sym r.ensures ∙ c.if-not-is_van_copy.false)) (sym ((c.is_ahead.ensures ∙ ap (ltb _) c.number_of.ensures.0)) ∙ c.if-is_ahead.true)

pub returns : goal.returns
returns c = next_or_held _ _ _ ((let r = c.is_message in sym r.ensures ∙ c.if-not-is_message.false)) ((let r = c.is_van_copy in sym r.ensures ∙ c.if-not-is_van_copy.false)) (sym ((c.is_ahead.ensures ∙ ap (ltb _) c.number_of.ensures.0)) ∙ c.if-is_ahead.false)
