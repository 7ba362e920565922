-- Laws of the copies of library memory, counted from 0, one of them replaced.
use Prim.Native.Nat.{ℕ, ◌*◌, ◌≤◌}
use mathlib.Core.Path.{◌≡◌, ◌∙◌}
use mathlib.Core.Logic.{◌≢◌}
use mathlib.Core.List.{List}
use native.Mathlib.Omega.{arith}
use lib.ListN.{length}
use Rattle.carts.proofs.PartLaws.{length_part, length_over, part_over}
use Rattle.carts.proofs.EachLaws.{record_other}
use Rattle.replication.specs.Memory.{copy_at, with_copy}

module _ (library : List ℕ) (n : length library ≡ 61440) (i : ℕ) (high : i ≤ 5) where
  pub length_copy_at : length (copy_at library i) ≡ 10240
  unfolding copy_at
  length_copy_at = length_part library (10240 * i) 10240 (omega arith)

  module _ (x : List ℕ) (e : length x ≡ 10240) where
    pub length_with_copy : length (with_copy library i x) ≡ 61440
    unfolding with_copy
    length_with_copy = length_over library (10240 * i) 10240 x (omega arith) e ∙ n

    pub copy_same : copy_at (with_copy library i x) i ≡ x
    unfolding copy_at with_copy
    copy_same = part_over library (10240 * i) 10240 x (omega arith) e

    pub copy_other : (j : ℕ) → j ≢ i → copy_at (with_copy library i x) j ≡ copy_at library j
    unfolding copy_at with_copy
    copy_other j ne = record_other library x 10240 i j (omega arith) e ne
