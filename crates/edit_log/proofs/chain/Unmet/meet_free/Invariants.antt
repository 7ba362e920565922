use Rattle.std.proofs.Common.{◌≡◌, ◌+◌, ◌-◌}
use Rattle.edit_log.specs.Log.{free_records, chain}
use Rattle.edit_log.specs.Values.{met_each, free_test}
use Rattle.edit_log.proofs.chain.Unmet.meet_free.Given as goal

abbrev pub invariant-loop : goal.invariant-loop
invariant-loop l =
    let left = 512 - l.counter in
    let rest = chain (left + (l.used + 1)) l.log l.r in
    (free_test l.log l.fn.self.left (free_records l.log l.first) (512 - l.used) 0 l.last ≡ free_test l.log l.self.left rest left l.before l.last)
    × (met_each l.fn.self.left (free_records l.log l.first) ≡ met_each l.self.left rest)
