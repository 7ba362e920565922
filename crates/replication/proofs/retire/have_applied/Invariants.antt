use mathlib.Core.Path.{◌≡◌}
use mathlib.Core.Bool.{◌&&◌}
use Prim.Native.Nat.{◌-◌}
use Rattle.carts.specs.Bytes.{every}
use Rattle.edit_log.specs.Log.{up_from}
use Rattle.replication.proofs.RetireLaws.{applied_by}
use Rattle.replication.proofs.retire.have_applied.Given as goal

abbrev pub invariant-loop-i : goal.invariant-loop-i
invariant-loop-i l = every (applied_by l.control) (up_from 1 l.control.studios) ≡ (l.ok && every (applied_by l.control) (up_from l.i (l.control.studios - (l.i - 1))))
