-- Parts of 80 bytes counted from 1, one of them replaced: carts of a copy, records of the log, sessions.
use mathlib.Core.Path.{◌≡◌, ◌∙◌}
use mathlib.Core.Logic.{◌≢◌}
use mathlib.Core.List.{List}
use Prim.Native.Nat.{ℕ, ◌*◌, ◌-◌, ◌≤◌}
use native.Mathlib.Omega.{arith}
use lib.ListN.{length, drop}
use Rattle.carts.specs.Bytes.{part, over}
use Rattle.carts.proofs.PartLaws.{length_part, length_over, part_over, drop_over_after}
use Rattle.carts.proofs.EachLaws.{record_other}

-- part i of 80 bytes, and the list with x in its place: what cart_at, record_at, session_at, act, with_record and with_session unfold to
abbrev pub cell : List ℕ → ℕ → List ℕ
cell s i = part s (80 * (i - 1)) 80

abbrev pub with_cell : List ℕ → ℕ → List ℕ → List ℕ
with_cell s i x = over s (80 * (i - 1)) 80 x

module _ (count : ℕ) (s : List ℕ) (n : length s ≡ 80 * count) (i : ℕ) (low : 1 ≤ i) (high : i ≤ count) where
  pub length_cell : length (cell s i) ≡ 80
  length_cell = length_part s (80 * (i - 1)) 80 (omega arith)

  module _ (x : List ℕ) (e : length x ≡ 80) where
    pub length_cells : length (with_cell s i x) ≡ 80 * count
    length_cells = length_over s (80 * (i - 1)) 80 x (omega arith) e ∙ n

    pub cell_same : cell (with_cell s i x) i ≡ x
    cell_same = part_over s (80 * (i - 1)) 80 x (omega arith) e

    pub cell_other : (j : ℕ) → 1 ≤ j → j ≢ i → cell (with_cell s i x) j ≡ cell s j
    cell_other j l ne = record_other s x 80 (i - 1) (j - 1) (omega arith) e (omega arith)

    pub cells_past : (k : ℕ) → i ≤ k → drop (80 * k) (with_cell s i x) ≡ drop (80 * k) s
    cells_past k l = drop_over_after s (80 * (i - 1)) 80 x (80 * k) (omega arith) e (omega arith)
