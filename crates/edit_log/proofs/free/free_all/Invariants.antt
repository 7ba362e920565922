use Rattle.std.proofs.Common.{◌≡◌, ◌≤◌, ◌+◌, length}
use Rattle.edit_log.specs.Log.{back, records_of}
use Rattle.edit_log.specs.Values.{Ending}
use Rattle.edit_log.specs.Writes.{write_all}
use Rattle.edit_log.proofs.FreeLaws.{blanks}
use Rattle.edit_log.proofs.free.free_all.Given as goal

abbrev pub invariant-loop-r : goal.invariant-loop-r
invariant-loop-r l =
    let first = records_of l.fn.log l.fn.first in
    let rest = records_of l.log l.r in
    (length l.log ≡ 40960) × Ending l.log l.r × (write_all first (blanks first) l.fn.log ≡ write_all rest (blanks rest) l.log) × (back 0 first ≡ back l.last rest) × (length first ≡ l.count + length rest) × (length first ≤ 8)

abbrev pub decreases-loop-r : goal.decreases-loop-r
decreases-loop-r l = length (records_of l.log l.r)
