use Rattle.std.proofs.Common.{arith, sym, ap, ◌∙◌}
use lib.Seq.{take_all, length-take-le}
use Rattle.carts.specs.Bytes.{over, u16_bytes}
use Rattle.edit_log.proofs.cell.store.Goals as goal

pub slice_bounds-copy_from_slice-end : goal.slice_bounds-copy_from_slice-end
slice_bounds-copy_from_slice-end c = sym (length-take-le 80 c.args.x.now (omega arith))

pub copy_from_slice-requires : goal.copy_from_slice-requires
copy_from_slice-requires c = c.requires.lengths.0 ∙ sym (length-take-le 80 c.args.x.now (omega arith))

pub returns : goal.returns
returns c =
    let whole = take_all 80 c.args.x.now (omega arith) in
    c.put_u16.ensures ∙ ap (λ s. over s c.args.at 2 (u16_bytes c.args.v)) (c.copy_from_slice.ensures.after ∙ whole)
