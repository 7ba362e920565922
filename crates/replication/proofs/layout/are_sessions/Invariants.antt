use mathlib.Core.Path.{◌≡◌}
use mathlib.Core.Bool.{◌&&◌}
use Prim.Native.Nat.{◌-◌, ◌*◌}
use lib.ListN.{drop}
use Rattle.carts.specs.Bytes.{each_part}
use Rattle.replication.specs.Layout.{session_form}
use Rattle.replication.proofs.layout.are_sessions.Given as goal

abbrev pub invariant-loop-s : goal.invariant-loop-s
invariant-loop-s l = each_part (session_form l.control) 80 16 1 l.sessions ≡ (l.ok && each_part (session_form l.control) 80 (16 - (l.s - 1)) l.s (drop (80 * (l.s - 1)) l.sessions))
