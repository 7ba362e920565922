use Rattle.replication.proofs.ControlLaws.{counts_above, counts_fewer, counts_are}
use Rattle.replication.proofs.control.Control.has_counts.Goals as goal

pub returns-then-self-i : goal.returns-then-self-i
returns-then-self-i c = counts_above c.args.self c.args.i _ _ c.sent_to-sent.ensures c.applied_by-applied.ensures c.if-self-i.true

pub returns-then-sent-applied : goal.returns-then-sent-applied
returns-then-sent-applied c = counts_fewer c.args.self c.args.i _ _ c.sent_to-sent.ensures c.applied_by-applied.ensures c.if-self-i.false c.if-sent-applied.true

pub returns : goal.returns
returns c = counts_are c.args.self c.args.i _ _ c.sent_to-sent.ensures c.applied_by-applied.ensures c.if-self-i.false c.if-sent-applied.false
