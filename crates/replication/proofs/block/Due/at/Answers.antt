use mathlib.Core.Path.{ap}
use Rattle.replication.specs.Values.{session_value}
use Rattle.replication.specs.declared.session.Session.{Session}
use Rattle.replication.proofs.BlockLaws.{due_is}
use Rattle.replication.proofs.block.Due.at.Goals as goal

pub returns : goal.returns
unfolding session_value
returns c =
    let g = c.args in
    let number = ap (λ (v : Session). v.number) c.from_bytes-own.ensures.0 in
    (due_is g.control g.sessions.now _ g.session _ _ _ c.session_at.ensures.0 number c.studio_of-studio.ensures c.applied_by-state.ensures, c.from_bytes-own.ensures.1)
