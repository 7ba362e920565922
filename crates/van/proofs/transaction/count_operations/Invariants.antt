use mathlib.Core.Path.{◌≡◌}
use mathlib.Core.Bool.{true}
use Prim.Native.Nat.{◌+◌, ◌-◌, ◌≤◌}
use lib.ListN.{length}
use Rattle.carts.specs.Bytes.{every}
use Rattle.edit_log.specs.Log.{records_of}
use Rattle.edit_log.specs.Values.{usable}
use Rattle.van.proofs.TransactionLaws.{Left}
use Rattle.van.proofs.transaction.count_operations.Given as goal

abbrev pub invariant-loop-n : goal.invariant-loop-n
invariant-loop-n l = (l.n ≤ 9) × (every (usable l.log) (Left l.log l.n l.r) ≡ true) × (length (records_of l.log l.first) ≡ l.n + length (Left l.log l.n l.r))
