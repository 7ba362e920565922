use mathlib.Core.Path.{◌≡◌}
use mathlib.Core.Bool.{◌&&◌}
use Prim.Native.Nat.{◌-◌}
use Rattle.carts.specs.Bytes.{every}
use Rattle.edit_log.specs.Log.{up_from}
use Rattle.replication.specs.Values.{are_level}
use Rattle.replication.proofs.LevelLaws.{level_at}
use Rattle.replication.proofs.load.are_level.Given as goal

abbrev pub invariant-loop-i : goal.invariant-loop-i
invariant-loop-i l = are_level l.control l.system.library.now l.copy l.n ≡ (l.ok && every (level_at l.control l.system.library.now l.copy l.n) (up_from l.i (l.control.studios - (l.i - 1))))
