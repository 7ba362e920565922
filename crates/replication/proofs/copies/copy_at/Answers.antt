use mathlib.Core.Path.{refl}
use Prim.Native.Nat.{◌*◌}
use native.Mathlib.Nat.{add-sub_cancel_left}
use native.Mathlib.Omega.{arith}
use Rattle.carts.proofs.PartLaws.{length_part}
use Rattle.replication.specs.Memory.{copy_at}
use Rattle.replication.proofs.copies.copy_at.Goals as goal

pub returns : goal.returns
unfolding copy_at
returns c = let a = c.args in
    rw add-sub_cancel_left (refl, length_part a.library.now (10240 * a.i) 10240 (omega (arith, c.requires)))
