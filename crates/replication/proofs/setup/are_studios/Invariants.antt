use mathlib.Core.Path.{◌≡◌}
use mathlib.Core.Bool.{◌&&◌}
use lib.ListN.{drop}
use lib.Dec.{leb}
use Rattle.carts.specs.Bytes.{every}
use Rattle.replication.proofs.setup.are_studios.Given as goal

abbrev pub invariant-loop-b : goal.invariant-loop-b
invariant-loop-b l = every (λ b. leb b l.studios) l.places ≡ (l.ok && every (λ b. leb b l.studios) (drop l.b-index l.places))
