use Rattle.std.proofs.Common.{[], ◌∷◌}
use Rattle.carts.specs.Bytes.{part, all_zero}
use Rattle.carts.specs.Operation.{operation_form, operation_fields}
use Rattle.carts.proofs.ScanLaws.{join_all_law}
use Rattle.carts.proofs.operation.is_operation.Goals as goal

pub returns : goal.returns
unfolding operation_form
returns c = let s = c.args.op.now in
    rw (c.all_zero.ensures, c.has_fields.ensures) (join_all_law (operation_fields s) (all_zero (part s 12 4) ∷ []))
