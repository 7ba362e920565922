use Rattle.std.proofs.Common.{[], ◌∷◌, cond, ◌||◌}
use Rattle.carts.specs.Bytes.{byte, u16, within}
use Rattle.carts.specs.Cart.{has_title, no_title, has_audio, no_audio}
use Rattle.carts.specs.Operation.{operation_fields, is_new, is_retitle, is_recut}
use Rattle.carts.proofs.ScanLaws.{join_all_law}
use Rattle.carts.proofs.operation.has_fields.Goals as goal

pub returns : goal.returns
unfolding operation_fields
returns c = let op = c.args.op.now in
    let kind = byte op 0 in
    rw (
      c.is_audio_as_asked.ensures,
      c.has_audio.ensures,
      c.is_title_as_asked.ensures,
      c.has_title.ensures,
      c.is_within-2.ensures,
      c.u16_at.ensures.0,
      c.is_within.ensures,
    ) (join_all_law (within 1 4 kind) (within 1 128 (u16 op 2) ∷ cond (is_new kind || is_retitle kind) (has_title op) (no_title op) ∷ cond (is_new kind || is_recut kind) (has_audio op) (no_audio op) ∷ []))
