-- The loop shows the carts one by one: what is found and shown in all is what has been, and what the numbers left give.
use Prim.Native.Nat.{◌≤◌, ◌+◌, ◌-◌, ◌*◌}
use mathlib.Core.Path.{◌≡◌}
use Rattle.carts.specs.Bytes.{over}
use Rattle.carts.specs.Title.{shown_by_numbers, found_by_numbers}
use Rattle.replication.specs.Request.{numbers_in}
use Rattle.replication.proofs.OutputLaws.{Left}
use Rattle.replication.proofs.output.show_numbers.Given as goal

abbrev pub invariant-loop-i : goal.invariant-loop-i
invariant-loop-i l = let n = l.fn.count in
    record {
      few : l.found ≤ l.i;
      found : found_by_numbers l.copy (numbers_in l.request) ≡ l.found + found_by_numbers l.copy (Left l.request n l.i);
      shown : over l.fn.output 0 (80 * n) (shown_by_numbers l.copy (numbers_in l.request)) ≡ over l.output (80 * l.i) (80 * (n - l.i)) (shown_by_numbers l.copy (Left l.request n l.i));
    }
