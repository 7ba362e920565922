use Prim.Native.Nat.{ℕ}
use mathlib.Core.Bool.{Bool, true, ◌&&◌, and-true, and_assoc}
use mathlib.Core.Path.{◌≡◌}
use Rattle.carts.specs.Bytes.{every}
use Rattle.replication.specs.Layout.{counts_form}
use Rattle.replication.proofs.layout.are_counts.Goals as goal

-- the four tests as the code joins them
four : (p : ℕ → Bool) → (p 1 && p 2 && p 3 && p 4) ≡ (p 1 && (p 2 && (p 3 && (p 4 && true))))
four p = simp (and-true, and_assoc)

pub returns : goal.returns
unfolding every
returns c = rw (c.has_counts.ensures, c.has_counts-2.ensures, c.has_counts-3.ensures, c.has_counts-4.ensures) (four (counts_form c.args.control))
