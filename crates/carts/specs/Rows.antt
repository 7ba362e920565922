-- Document 01, "Where a call is stopped": rows, "checked from top to bottom". The rows of each call stand with its definition.
use Rattle.std.specs.Prelude.{Bool, cond, List, [], ◌∷◌, ℕ, zero, suc}

-- a row: its condition and its number
pub record Row : Type 0 where
  pub stops : Bool
  pub number : ℕ

abbrev pub row : ℕ → Bool → Row
row n b = record { stops = b; number = n }

-- the number of the first row whose condition holds; 0 for none
unfoldable pub stopped : List Row → ℕ
stopped [] = 0
stopped (r ∷ rs) = let later = stopped rs in cond r.stops r.number later

-- what a call leaves: by the number that stops it, or accepted
unfoldable pub unless : {A : Type 0} → ℕ → (ℕ → A) → A → A
unless zero refused accepted = accepted
unless (suc n) refused accepted = refused (suc n)
