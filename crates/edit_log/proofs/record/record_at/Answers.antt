use Rattle.std.proofs.Common.{◌*◌, ◌-◌, arith, refl}
use native.Mathlib.Nat.{add-sub_cancel_left}
use Rattle.carts.proofs.PartLaws.{length_part}
use Rattle.edit_log.specs.Log.{record_at}
use Rattle.edit_log.proofs.record.record_at.Goals as goal

pub returns : goal.returns
unfolding record_at
returns c = let a = c.args in rw add-sub_cancel_left (refl, length_part a.log.now (80 * (a.r - 1)) 80 (omega arith))
