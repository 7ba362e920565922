use mathlib.Core.Path.{refl, ap, ◌∙◌}
use lib.ListN.{length}
use Rattle.carts.proofs.RefusalLaws.{refuses}
use Rattle.replication.specs.Memory.{memory}
use Rattle.replication.proofs.BlockLaws.{due_known}
use Rattle.replication.proofs.ReadLaws.{read_known, forward_refused, forward_answers}
use Rattle.replication.proofs.forward.forward.Goals as goal

pub returns-in-Err : goal.returns-in-Err
returns-in-Err c = forward_refused _ _ _ _ _ _ c.in-Err.ensures (refuses _)

pub session_at-requires : goal.session_at-requires
session_at-requires c =
    let g = c.args in
    (read_known g.control (memory g.library.now g.log.now g.sessions.now) g.session _ g.output.now _ c.in_default.ensures refl).0.place

pub at-due-requires : goal.at-due-requires
at-due-requires c =
    let g = c.args in
    let k = read_known g.control (memory g.library.now g.log.now g.sessions.now) g.session _ g.output.now _ c.in_default.ensures refl in
    record { memory = k.0.place; studio = k.0.studio }

pub source_of-source-requires : goal.source_of-source-requires
source_of-source-requires c =
    let g = c.args in
    let k = read_known g.control (memory g.library.now g.log.now g.sessions.now) g.session _ g.output.now _ c.in_default.ensures refl in
    let few = due_known g.control g.sessions.now g.session _ c.at-due.ensures.0 k.0.studio.1 k.0.state in
    record { numbers = (c.at-due.ensures.1, (few.1, k.0.commits)); studio = few.0 }

pub answer_from-reading-requires : goal.answer_from-reading-requires
answer_from-reading-requires c =
    let g = c.args in
    let k = read_known g.control (memory g.library.now g.log.now g.sessions.now) g.session _ g.output.now _ c.in_default.ensures refl in
    record {
      memory = (k.0.library, k.0.place);
      source = c.source_of-source.ensures.1;
      request = (k.1.size, (k.1.fields, k.1.fits));
      left_by = ap length c.copy_from_slice.ensures.after ∙ c.session_at.ensures.1;
    }

pub returns : goal.returns
returns c =
    let g = c.args in
    let own = c.copy_from_slice.ensures.after ∙ c.session_at.ensures.0 in
    forward_answers g.control (memory g.library.now g.log.now g.sessions.now) g.session g.request.now g.output.now _ c.in_default.ensures refl
    _ c.at-due.ensures.0 _ own _ c.source_of-source.ensures.0 _ (c.answer_from-reading.ensures g.control g.log.now)
