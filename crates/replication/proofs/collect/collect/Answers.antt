use mathlib.Core.Path.{refl, ◌∙◌}
use Rattle.carts.specs.Bytes.{zeros}
use Rattle.carts.proofs.RefusalLaws.{refuses}
use Rattle.replication.specs.Memory.{memory}
use Rattle.replication.proofs.SessionLaws.{asked_same}
use Rattle.replication.proofs.ReadLaws.{collect_refused, collect_known, collect_steps}
use Rattle.replication.proofs.collect.collect.Goals as goal

pub returns-in-Err : goal.returns-in-Err
returns-in-Err c = collect_refused _ _ _ _ _ c.in-Err.ensures (refuses _)

pub session_at-requires : goal.session_at-requires
session_at-requires c =
    let g = c.args in
    (collect_known g.control (memory g.library.now g.log.now g.sessions.now) g.session g.output.now _ c.in_default.ensures refl).0.place

pub block-reading-requires : goal.block-reading-requires
block-reading-requires c =
    let g = c.args in
    let k = collect_known g.control (memory g.library.now g.log.now g.sessions.now) g.session g.output.now _ c.in_default.ensures refl in
    let x = asked_same _ _ _ (c.copy_from_slice.ensures.after ∙ c.session_at.ensures.0) k.1 in
    record {
      memory = (k.0.library, k.0.place);
      studio = (k.0.studio, k.0.state);
      request = (x.size, (x.fields, x.fits));
      left_by = refl;
    }

pub returns : goal.returns
unfolding zeros
returns c = collect_steps _ _ _ _ _ c.in_default.ensures refl _ _ (c.copy_from_slice.ensures.after ∙ c.session_at.ensures.0) (c.block-reading.ensures.left _)
