use Rattle.std.proofs.Common.{◌≡◌, ◌&&◌, not, drop}
use Rattle.carts.specs.Bytes.{every}
use Rattle.edit_log.specs.Values.{all_met}
use Rattle.edit_log.proofs.chain.Unmet.is_empty.Given as goal

abbrev pub invariant-loop-left : goal.invariant-loop-left
invariant-loop-left l = all_met l.self.left ≡ (not l.any && every not (drop l.left-index l.self.left))
