use mathlib.Core.Path.{refl, ap, ◌∙◌}
use lib.ListN.{length}
use Rattle.carts.proofs.RefusalLaws.{refuses}
use Rattle.replication.specs.Memory.{memory}
use Rattle.replication.proofs.BlockLaws.{answered_waits}
use Rattle.replication.proofs.ReadLaws.{read_refused, read_known, read_answers, read_waits}
use Rattle.replication.proofs.read.read.Goals as goal

pub returns-in-Err : goal.returns-in-Err
returns-in-Err c = read_refused _ _ _ _ _ _ c.in-Err.ensures (refuses _)

pub session_at-requires : goal.session_at-requires
session_at-requires c =
    let g = c.args in
    (read_known g.control (memory g.library.now g.log.now g.sessions.now) g.session _ g.output.now _ c.in_default.ensures refl).0.place

pub block-reading-requires : goal.block-reading-requires
block-reading-requires c =
    let g = c.args in
    let k = read_known g.control (memory g.library.now g.log.now g.sessions.now) g.session _ g.output.now _ c.in_default.ensures refl in
    record {
      memory = (k.0.library, k.0.place);
      studio = (k.0.studio, k.0.state);
      request = (k.1.size, (k.1.fields, k.1.fits));
      left_by = ap length c.copy_from_slice.ensures.after ∙ c.session_at.ensures.1;
    }

pub store-requires : goal.store-requires
store-requires c =
    let g = c.args in
    let k = read_known g.control (memory g.library.now g.log.now g.sessions.now) g.session _ g.output.now _ c.in_default.ensures refl in
    record {
      memory = (c.block-reading.auto.sessions ∙ k.0.place.0, k.0.place.1);
      bytes = (k.1.size, c.in-Waits.ensures.small _ refl);
    }

pub returns-in-Waits : goal.returns-in-Waits
returns-in-Waits c =
    let own = c.copy_from_slice.ensures.after ∙ c.session_at.ensures.0 in
    read_waits _ _ _ _ _ _ c.in_default.ensures refl _ _ _ own _ _ refl (c.in-Waits.ensures.left _) _ c.store.ensures

pub returns-in_default-reading : goal.returns-in_default-reading
returns-in_default-reading c =
    let own = c.copy_from_slice.ensures.after ∙ c.session_at.ensures.0 in
    rw c.in_default-reading.is (read_answers _ _ _ _ _ _ c.in_default.ensures refl _ _ _ own _ (answered_waits _ _) (c.in_default-reading.ensures.left _))
