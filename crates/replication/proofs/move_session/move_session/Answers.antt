use mathlib.Core.Path.{refl}
use Rattle.carts.proofs.RefusalLaws.{refuses}
use Rattle.replication.specs.Memory.{memory}
use Rattle.replication.proofs.MoveLaws.{move_refused, move_known, move_accepted}
use Rattle.replication.proofs.move_session.move_session.Goals as goal

pub returns-in-Err : goal.returns-in-Err
returns-in-Err c = move_refused _ _ _ _ _ c.in-Err.ensures (refuses _)

pub with_studio-requires : goal.with_studio-requires
with_studio-requires c =
    let g = c.args in
    move_known g.control (memory g.library.now g.log.now g.sessions.now) _ _ _ c.in_default.ensures refl

pub returns : goal.returns
returns c = move_accepted _ _ _ _ _ c.in_default.ensures refl _ c.with_studio.ensures
