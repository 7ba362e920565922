use Rattle.replication.specs.Memory.{memory}
use Rattle.replication.proofs.BlockLaws.{source_answers, block_waits, block_answers}
use Rattle.replication.proofs.block.block.Goals as goal

pub returns-then-due-clause-left : goal.returns-then-due-clause-left
returns-then-due-clause-left c =
    let g = c.args in
    λ log. block_waits g.control (memory g.library.now log g.sessions.now) g.session _ c.at-due.ensures.0 _ _ g.output.now c.if-due.true

pub returns-clause-left : goal.returns-clause-left
returns-clause-left c =
    let g = c.args in
    λ log. block_answers g.control (memory g.library.now log g.sessions.now) g.session _ c.at-due.ensures.0 _ _ g.output.now c.if-due.false _ c.source-source.ensures.0 _ (c.answer_from.ensures g.control log)

-- an answer is no wait
pub returns-clause-small : goal.returns-clause-small
returns-clause-small c =
    let g = c.args in
    λ n w. absurd (source_answers _ _ g.control (memory g.library.now g.library.now g.sessions.now) _ _ _ _ _ _ (c.answer_from.ensures g.control g.library.now) n w)
