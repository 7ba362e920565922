use mathlib.Core.Path.{◌≡◌}
use mathlib.Core.Bool.{true}
use mathlib.Core.List.{map}
use Prim.Native.Nat.{◌*◌, ◌-◌, ◌/◌}
use lib.ListN.{length}
use Rattle.carts.specs.Bytes.{over, every}
use Rattle.edit_log.specs.Log.{transaction_at, handed_in}
use Rattle.replication.specs.Message.{joined}
use Rattle.edit_log.specs.Values.{usable}
use Rattle.van.proofs.TransactionLaws.{Left, Texts}
use Rattle.van.proofs.transaction.put_operations.Given as goal

abbrev pub invariant-loop-i : goal.invariant-loop-i
invariant-loop-i l = (length l.places ≡ length l.fn.places) × (every (usable l.log) (Left l.log l.i l.r) ≡ true) × (length (Left l.log l.i l.r) ≡ length l.fn.places / 80 - l.i)
    × (joined (map handed_in (transaction_at l.log l.first)) ≡ over l.places (80 * l.i) (80 * (length l.fn.places / 80 - l.i)) (Texts l.log l.i l.r))
