use Rattle.std.proofs.Common.{◌≡◌, length}
use Rattle.edit_log.specs.Writes.{fresh_log}
use Rattle.edit_log.proofs.UpFromLaws.{ToFree, Blank}
use Rattle.edit_log.proofs.fresh.make_fresh.Given as goal

abbrev pub invariant-loop-r : goal.invariant-loop-r
invariant-loop-r l = (length l.log ≡ 40960) × ((fresh_log ≡ ToFree l.r l.log) × Blank l.r l.log)
