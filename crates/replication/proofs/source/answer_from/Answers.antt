use Rattle.replication.specs.Memory.{memory}
use Rattle.replication.proofs.BlockLaws.{answers_by}
use Rattle.replication.proofs.source.answer_from.Goals as goal

pub returns : goal.returns
returns c =
    let g = c.args in
    λ control log. answers_by g.source _ control (memory g.library.now log g.sessions.now) g.session _ g.output.now _ _ c.answer-found.ensures _ c.store.ensures
