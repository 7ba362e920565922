use Prim.Native.Nat.{◌-◌, ◌*◌}
use mathlib.Core.Path.{◌≡◌}
use mathlib.Core.Bool.{◌&&◌}
use lib.ListN.{drop}
use Rattle.carts.specs.Bytes.{within, every, u16s}
use Rattle.replication.specs.Request.{numbers_in}
use Rattle.replication.proofs.session.is_numbers.Given as goal

abbrev pub invariant-loop-i : goal.invariant-loop-i
invariant-loop-i l = every (within 1 128) (numbers_in l.x) ≡ (l.ok && every (within 1 128) (u16s (l.n - l.i) (drop (2 * l.i) (drop 16 l.x))))
