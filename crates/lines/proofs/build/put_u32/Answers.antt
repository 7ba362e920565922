use Rattle.std.proofs.Common.{◌≡◌, ◌∙◌, arith}
use Rattle.lines.specs.Build.{u32_bytes}
use Rattle.lines.proofs.BuildLaws.{u32_written}
use native.Mathlib.Nat.{add-sub_cancel_left}
use Rattle.lines.proofs.build.put_u32.Goals as goal

pub returns : goal.returns
returns c =
    let e : c.copy_from_slice.new.self ≡ u32_bytes c.args.v = c.copy_from_slice.ensures.after ∙ c.to_le_bytes.ensures ∙ u32_written c.args.v (omega arith) in
    rw (add-sub_cancel_left, e)
