use Rattle.std.proofs.Common.{◌≡◌, ◌-◌}
use Rattle.edit_log.specs.Log.{log_records}
use Rattle.edit_log.specs.Values.{met_each, log_test}
use Rattle.edit_log.proofs.chain.Unmet.meet_log.Given as goal

abbrev pub invariant-loop : goal.invariant-loop
invariant-loop l =
    let left = l.transactions - l.counter in
    (log_test l.transactions l.log l.fn.self.left l.oldest l.used ≡ log_test left l.log l.self.left l.first l.room)
    × (met_each l.fn.self.left (log_records l.transactions l.log l.oldest) ≡ met_each l.self.left (log_records left l.log l.first))
