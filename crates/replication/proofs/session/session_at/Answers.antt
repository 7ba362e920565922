use mathlib.Core.Path.{refl}
use Prim.Native.Nat.{◌*◌, ◌-◌}
use native.Mathlib.Nat.{add-sub_cancel_left}
use native.Mathlib.Omega.{arith}
use Rattle.carts.proofs.PartLaws.{length_part}
use Rattle.replication.specs.Memory.{session_at}
use Rattle.replication.proofs.session.session_at.Goals as goal

pub returns : goal.returns
unfolding session_at
returns c = let a = c.args in
    rw add-sub_cancel_left (refl, length_part a.sessions.now (80 * (a.session - 1)) 80 (omega arith))
