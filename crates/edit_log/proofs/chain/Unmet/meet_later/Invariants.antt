use Rattle.std.proofs.Common.{◌≡◌, ◌-◌}
use Rattle.edit_log.specs.Log.{chain}
use Rattle.edit_log.specs.Values.{met_each, size_from}
use Rattle.edit_log.proofs.chain.Unmet.meet_later.Given as goal

abbrev pub invariant-loop-n : goal.invariant-loop-n
invariant-loop-n l =
    (size_from 1 l.log l.fn.self.left l.next ≡ size_from l.n l.log l.self.left l.r) × (met_each l.fn.self.left (chain 8 l.log l.next) ≡ met_each l.self.left (chain (9 - l.n) l.log l.r))
