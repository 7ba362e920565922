use mathlib.Core.Path.{◌≡◌}
use mathlib.Core.Bool.{◌&&◌}
use Prim.Native.Nat.{◌-◌, ◌*◌}
use lib.ListN.{drop}
use Rattle.carts.specs.Bytes.{each_part}
use Rattle.replication.specs.Layout.{replica_form}
use Rattle.replication.proofs.layout.are_replicas.Given as goal

abbrev pub invariant-loop-i : goal.invariant-loop-i
invariant-loop-i l = each_part (replica_form l.studios) 10240 5 0 l.library ≡ (l.ok && each_part (replica_form l.studios) 10240 (5 - l.i) l.i (drop (10240 * l.i) l.library))
