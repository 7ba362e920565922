-- A call that decides by its rows in turn: memory, then who calls, then the others; and what is known where none stops it.
use Prim.Native.Nat.{ℕ, ◌≤◌}
use mathlib.Core.Path.{◌≡◌, refl, sym, ap, ◌∙◌}
use mathlib.Core.Bool.{Bool, true, false, cond, ◌||◌, not}
use mathlib.Core.List.{List, [], ◌∷◌, ◌++◌, append_assoc}
use native.Mathlib.Omega.{arith}
use lib.Dec.{eqb}
use borrow.Author.Tests.{eqb-false, not-false}
use Rattle.carts.specs.Bytes.{within}
use Rattle.carts.proofs.TestLaws.{within_low, within_high}
use Rattle.replication.specs.Memory.{Memory}
use Rattle.replication.specs.Rows.{Row, stopped, memory_rows, session_row, studio_row}
use Rattle.replication.specs.declared.control.Control.{Control}
use Rattle.replication.proofs.RowLaws.{lacks, numbered, passed, stops_first, decides, later_stops, right_memory, memory_numbered}
use Rattle.replication.proofs.Formed.{Formed, formed}

pub memory_formed : (c : Control) (m : Memory) (v : ℕ) → v ≡ stopped (memory_rows c m) → v ≡ 0 → Formed c m
memory_formed c m v e z = let r = right_memory c m (sym e ∙ z) in formed c m r.0 r.1

-- rows 1 to 3: on memory, and `who`; v is what the code has found of the first two
module _ (c : Control) (m : Memory) (who : Row) where
  abbrev FirstRows : List Row
  FirstRows = memory_rows c m ++ (who ∷ [])

  module _ (v : ℕ) (e : v ≡ stopped (memory_rows c m)) where
    pub by_memory : (v ≡ 0 → ⊥) → v ≡ stopped FirstRows
    by_memory n = stops_first (memory_rows c m) (who ∷ []) v e n

    pub by_who : v ≡ 0 → (w : ℕ) → w ≡ stopped (who ∷ []) → w ≡ stopped FirstRows
    by_who z w f = decides (memory_rows c m) (who ∷ []) v w (memory_numbered c m) e z f

  -- where none of the three stops the call
  module _ (v : ℕ) (e : v ≡ stopped FirstRows) (z : v ≡ 0) where
    first_pass : (stopped (memory_rows c m) ≡ 0) × (stopped (who ∷ []) ≡ 0)
    first_pass = later_stops (memory_rows c m) (who ∷ []) 0 (memory_numbered c m) (sym e ∙ z)

    pub first_formed : Formed c m
    first_formed = memory_formed c m 0 (sym first_pass.0) refl

    pub first_who : stopped (who ∷ []) ≡ 0
    first_who = first_pass.1

-- the rows of a call: those three, and its own; v is what the code has found of the first three
module _ (c : Control) (m : Memory) (who : Row) (rest : List Row) (k : numbered (who ∷ []) ≡ true) (v : ℕ) (e : v ≡ stopped (FirstRows c m who)) where
  pub by_first : (v ≡ 0 → ⊥) → v ≡ stopped (memory_rows c m ++ (who ∷ rest))
  by_first n = stops_first (FirstRows c m who) rest v e n ∙ ap stopped (append_assoc (memory_rows c m) (who ∷ []) rest)

  pub by_rest : v ≡ 0 → (n : ℕ) → n ≡ stopped rest → n ≡ stopped (memory_rows c m ++ (who ∷ rest))
  by_rest z n g =
      let p = first_pass c m who v e z in
      decides (memory_rows c m) (who ∷ rest) 0 n (memory_numbered c m) (sym p.0) refl (decides (who ∷ []) rest 0 n k (sym p.1) refl g)

-- a call that rows 1 and 2 do not stop: no row stops it, or one of another number
pub by_own_rows : (c : Control) (m : Memory) (rs : List Row) (v : ℕ) → lacks v (memory_rows c m) ≡ true → stopped (memory_rows c m ++ rs) ≡ v → Formed c m × (stopped rs ≡ v)
by_own_rows c m rs v k e = let p = later_stops (memory_rows c m) rs v k e in (memory_formed c m 0 (sym p.0) refl, p.1)

pub accepted : (c : Control) (m : Memory) (rs : List Row) → stopped (memory_rows c m ++ rs) ≡ 0 → Formed c m × (stopped rs ≡ 0)
accepted c m rs e = by_own_rows c m rs 0 (memory_numbered c m) e

-- who calls, where row 3 does not stop the call
pub record KnownStudio (studios i : ℕ) : Type 0 where
  pub low : 1 ≤ i
  pub high : i ≤ studios

pub known_studio : (studios i : ℕ) → stopped (studio_row studios i ∷ []) ≡ 0 → KnownStudio studios i
unfolding studio_row
known_studio studios i e =
    let w = not-false _ (passed 2 (not (within 1 studios i)) [] e).0 in
    record { low = within_low 1 studios i w; high = within_high 1 studios i w }

pub record KnownSession (s studio : ℕ) : Type 0 where
  pub low : 1 ≤ s
  pub high : s ≤ 16
  pub used : studio ≡ 0 → ⊥

pub known_session_law : (s studio : ℕ) → stopped (session_row s studio ∷ []) ≡ 0 → KnownSession s studio
unfolding stopped session_row
known_session_law s studio e = go (within 1 16 s) (eqb studio 0) refl refl e
  where
    go : (a b : Bool) → within 1 16 s ≡ a → eqb studio 0 ≡ b → ◌≡◌ {A = ℕ} (cond (not a || b) 3 0) 0 → KnownSession s studio
    go true true f g y = absurd (omega arith)
    go true false f g y = record { low = within_low 1 16 s f; high = within_high 1 16 s f; used = eqb-false studio 0 g }
    go false b f g y = absurd (omega arith)
