use mathlib.Core.Path.{◌≡◌}
use mathlib.Core.Bool.{◌&&◌}
use lib.ListN.{drop}
use lib.Dec.{leb}
use Rattle.carts.specs.Bytes.{every}
use Rattle.replication.proofs.control.are_at_most.Given as goal

abbrev pub invariant-loop-n : goal.invariant-loop-n
invariant-loop-n l = every (λ i. leb i l.most) l.numbers ≡ (l.ok && every (λ i. leb i l.most) (drop l.n-index l.numbers))
