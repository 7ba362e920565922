-- Laws of the rows of replication's calls: 1, 2 and 3.
use Prim.Native.Nat.{ℕ, ◌<◌, ◌≤◌}
use mathlib.Core.Path.{◌≡◌, refl}
use mathlib.Core.Bool.{Bool, true, false, cond, not, and-false}
use mathlib.Core.List.{List, [], ◌∷◌, ◌++◌}
use native.Mathlib.Omega.{arith}
use lib.Dec.{eqb}
use lib.ListN.{length}
use borrow.Author.Tests.{le-leb, lt-leb, eq-eqb, ne_eqb, eqb-true}
use Rattle.carts.specs.Bytes.{within, every}
use Rattle.replication.specs.Memory.{Memory, lengths_form}
use Rattle.replication.specs.Layout.{of_layout}
use Rattle.replication.specs.Rows.{Row, stopped, lengths_row, memory_rows, session_row, studio_row}
use Rattle.replication.specs.declared.control.Control.{Control}
use Rattle.carts.proofs.TestLaws.{all_at}
pub use Rattle.carts.proofs.RowLaws.{row_stops, row_passes, passed, numbered, stops_first, passes_on, later_stops, row_holds, decides, stopped_by, wider, unless_stopped, unless_accepted, unless_case, unless_both}
unfoldable pub use Rattle.carts.proofs.RowLaws.{lacks}

-- rows 1 and 2
module _ (c : Control) (m : Memory) where
  pub memory_numbered : numbered (memory_rows c m) ≡ true
  unfolding lacks every memory_rows lengths_row
  memory_numbered = refl

  pub lengths_wrong : lengths_form m ≡ false → 1 ≡ stopped (memory_rows c m)
  unfolding stopped memory_rows lengths_row
  lengths_wrong e = rw e

  pub layout_wrong : lengths_form m ≡ true → of_layout c m ≡ false → 2 ≡ stopped (memory_rows c m)
  unfolding stopped memory_rows lengths_row
  layout_wrong e f = rw (e, f)

  pub memory_right : lengths_form m ≡ true → of_layout c m ≡ true → 0 ≡ stopped (memory_rows c m)
  unfolding stopped memory_rows lengths_row
  memory_right e f = rw (e, f)

  pub memory_passes : (rs : List Row) → lengths_form m ≡ true → of_layout c m ≡ true → stopped (memory_rows c m ++ rs) ≡ stopped rs
  memory_passes rs e f = passes_on (memory_rows c m) rs 0 memory_numbered (memory_right e f) refl

  -- a call that they do not stop
  pub right_memory : stopped (memory_rows c m) ≡ 0 → (lengths_form m ≡ true) × (of_layout c m ≡ true)
  unfolding stopped memory_rows lengths_row
  right_memory e = go (lengths_form m) (of_layout c m) e
    where
      go : (a b : Bool) → ◌≡◌ {A = ℕ} (cond (not a) 1 (cond (not b) 2 0)) 0 → (a ≡ true) × (b ≡ true)
      go true true e = (refl, refl)
      go true false e = absurd (omega arith)
      go false b e = absurd (omega arith)

-- the three lengths
pub lengths_are : (m : Memory) → lengths_form m ≡ true → (length m.library ≡ 61440) × ((length m.log ≡ 40960) × (length m.sessions ≡ 1280))
unfolding lengths_form
lengths_are m e =
    let sizes : List Bool = eqb (length m.library) 61440 ∷ eqb (length m.log) 40960 ∷ eqb (length m.sessions) 1280 ∷ [] in
    (eqb-true _ _ (all_at 0 sizes e), (eqb-true _ _ (all_at 1 sizes e), eqb-true _ _ (all_at 2 sizes e)))

-- row 3 of a session
module _ (s studio : ℕ) where
  pub session_low : s < 1 → 3 ≡ stopped (session_row s studio ∷ [])
  unfolding stopped session_row within
  session_low h = rw (lt-leb 1 s h)

  pub session_high : 16 < s → 3 ≡ stopped (session_row s studio ∷ [])
  unfolding stopped session_row within
  session_high h = rw (lt-leb s 16 h, and-false)

  pub session_unused : 1 ≤ s → s ≤ 16 → studio ≡ 0 → 3 ≡ stopped (session_row s studio ∷ [])
  unfolding stopped session_row within
  session_unused h k e = rw (le-leb 1 s h, le-leb s 16 k, eq-eqb studio 0 e)

  pub session_used : 1 ≤ s → s ≤ 16 → (studio ≡ 0 → ⊥) → 0 ≡ stopped (session_row s studio ∷ [])
  unfolding stopped session_row within
  session_used h k e = rw (le-leb 1 s h, le-leb s 16 k, ne_eqb studio 0 e)

  pub session_numbered : numbered (session_row s studio ∷ []) ≡ true
  unfolding lacks every session_row
  session_numbered = refl

-- row 3 of a studio
module _ (studios i : ℕ) where
  pub studio_low : i < 1 → 3 ≡ stopped (studio_row studios i ∷ [])
  unfolding stopped studio_row within
  studio_low h = rw (lt-leb 1 i h)

  pub studio_high : studios < i → 3 ≡ stopped (studio_row studios i ∷ [])
  unfolding stopped studio_row within
  studio_high h = rw (lt-leb i studios h, and-false)

  pub studio_right : 1 ≤ i → i ≤ studios → 0 ≡ stopped (studio_row studios i ∷ [])
  unfolding stopped studio_row within
  studio_right h k = rw (le-leb 1 i h, le-leb i studios k)

  pub studio_numbered : numbered (studio_row studios i ∷ []) ≡ true
  unfolding lacks every studio_row
  studio_numbered = refl
