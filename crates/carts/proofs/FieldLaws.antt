-- A list of at least 16 bytes by its first 16, so that its fields compute.
use mathlib.Core.Path.{◌≡◌, subst}
use mathlib.Core.List.{List, ◌∷◌}
use Prim.Native.Nat.{ℕ, suc, ◌+◌, ◌≤◌, ◌<◌}
use native.Mathlib.Omega.{arith}
use lib.ListN.{length, drop, get_or, length-drop}
use lib.Seq.{drop-cons}

-- 16 bytes
pub record Head : Type 0 where
  pub b0 : ℕ
  pub b1 : ℕ
  pub b2 : ℕ
  pub b3 : ℕ
  pub b4 : ℕ
  pub b5 : ℕ
  pub b6 : ℕ
  pub b7 : ℕ
  pub b8 : ℕ
  pub b9 : ℕ
  pub b10 : ℕ
  pub b11 : ℕ
  pub b12 : ℕ
  pub b13 : ℕ
  pub b14 : ℕ
  pub b15 : ℕ

-- those bytes, and then others
abbrev pub bytes : Head → List ℕ → List ℕ
bytes h t =
    h.b0 ∷ h.b1 ∷ h.b2 ∷ h.b3 ∷ h.b4 ∷ h.b5 ∷ h.b6 ∷ h.b7 ∷ h.b8 ∷ h.b9 ∷ h.b10 ∷ h.b11 ∷ h.b12 ∷ h.b13 ∷ h.b14 ∷ h.b15 ∷ t

-- the first 16 bytes of a list
abbrev head_of : List ℕ → Head
head_of l = record {
  b0 = get_or l 0 0;
  b1 = get_or l 1 0;
  b2 = get_or l 2 0;
  b3 = get_or l 3 0;
  b4 = get_or l 4 0;
  b5 = get_or l 5 0;
  b6 = get_or l 6 0;
  b7 = get_or l 7 0;
  b8 = get_or l 8 0;
  b9 = get_or l 9 0;
  b10 = get_or l 10 0;
  b11 = get_or l 11 0;
  b12 = get_or l 12 0;
  b13 = get_or l 13 0;
  b14 = get_or l 14 0;
  b15 = get_or l 15 0;
}

split : (l : List ℕ) → 16 ≤ length l → bytes (head_of l) (drop 16 l) ≡ l
split l h =
    rw (
      ← e 15 (omega arith),
      ← e 14 (omega arith),
      ← e 13 (omega arith),
      ← e 12 (omega arith),
      ← e 11 (omega arith),
      ← e 10 (omega arith),
      ← e 9 (omega arith),
      ← e 8 (omega arith),
      ← e 7 (omega arith),
      ← e 6 (omega arith),
      ← e 5 (omega arith),
      ← e 4 (omega arith),
      ← e 3 (omega arith),
      ← e 2 (omega arith),
      ← e 1 (omega arith),
      ← e 0 (omega arith),
    )
  where
    e : (j : ℕ) → j < 16 → drop j l ≡ get_or l j 0 ∷ drop (suc j) l
    e j g = drop-cons l j 0 (omega arith)

-- what holds of every 16 bytes and n more holds of every list of that many
pub by_fields : (P : List ℕ → Type 0) (n : ℕ) → ((h : Head) (t : List ℕ) → n ≤ length t → P (bytes h t)) → (l : List ℕ) → 16 + n ≤ length l → P l
by_fields P n f l g = subst P (split l (omega arith)) (f (head_of l) (drop 16 l) (rw length-drop (omega arith)))
