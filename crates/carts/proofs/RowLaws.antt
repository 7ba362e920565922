-- Laws of rows: the first that stops a call.
use Prim.Native.Nat.{ℕ, zero, suc}
use mathlib.Core.Path.{◌≡◌, refl, sym, ◌∙◌}
use mathlib.Core.Bool.{Bool, true, false, cond, ◌||◌, not}
use mathlib.Core.List.{List, [], ◌∷◌, ◌++◌}
use native.Mathlib.Omega.{arith}
use lib.Dec.{eqb}
use borrow.Author.Tests.{eqb-false, not-true}
use Rattle.carts.specs.Bytes.{every}
use Rattle.carts.specs.Rows.{Row, row, stopped, unless}
use Rattle.carts.proofs.TestLaws.{and_left, and_right}

-- a row that stops, and one that does not
pub row_stops : (n : ℕ) (b : Bool) (rs : List Row) → b ≡ true → n ≡ stopped (row n b ∷ rs)
unfolding stopped
row_stops n b rs e = rw e

pub row_passes : (n : ℕ) (b : Bool) (rs : List Row) → b ≡ false → stopped (row n b ∷ rs) ≡ stopped rs
unfolding stopped
row_passes n b rs e = rw e

-- the first row does not stop the call, nor does a later one
pub passed : (n : ℕ) (b : Bool) (rs : List Row) → stopped (row (suc n) b ∷ rs) ≡ 0 → (b ≡ false) × (stopped rs ≡ 0)
unfolding stopped
passed n true rs e = absurd (omega arith)
passed n false rs e = (refl, e)

-- no row has the number v; every row has a number of its own, not 0
unfoldable pub lacks : ℕ → List Row → Bool
lacks v rs = every (λ r. not (eqb r.number v)) rs

abbrev pub numbered : List Row → Bool
numbered rs = lacks 0 rs

lacks_first : (v : ℕ) (x : Row) (xs : List Row) → lacks v (x ∷ xs) ≡ true → x.number ≡ v → ⊥
unfolding lacks every
lacks_first v x xs k = eqb-false x.number v (not-true _ (and_left (not (eqb x.number v)) (lacks v xs) k))

lacks_rest : (v : ℕ) (x : Row) (xs : List Row) → lacks v (x ∷ xs) ≡ true → lacks v xs ≡ true
unfolding lacks every
lacks_rest v x xs k = and_right (not (eqb x.number v)) (lacks v xs) k

-- rows before others: they stop the call, or the others decide
pub stops_first : (xs ys : List Row) (v : ℕ) → v ≡ stopped xs → (v ≡ 0 → ⊥) → v ≡ stopped (xs ++ ys)
unfolding stopped
stops_first [] ys v e n = absurd (n e)
stops_first (x ∷ xs) ys v e n = go x.stops e (stops_first xs ys v)
  where
    go : (b : Bool) → v ≡ cond b x.number (stopped xs) → (v ≡ stopped xs → (v ≡ 0 → ⊥) → v ≡ stopped (xs ++ ys)) → v ≡ cond b x.number (stopped (xs ++ ys))
    go true f ih = f
    go false f ih = ih f n

pub passes_on : (xs ys : List Row) (v : ℕ) → numbered xs ≡ true → v ≡ stopped xs → v ≡ 0 → stopped (xs ++ ys) ≡ stopped ys
unfolding stopped
passes_on [] ys v k e z = refl
passes_on (x ∷ xs) ys v k e z = go x.stops e (passes_on xs ys v (lacks_rest 0 x xs k))
  where
    go : (b : Bool) → v ≡ cond b x.number (stopped xs) → (v ≡ stopped xs → v ≡ 0 → stopped (xs ++ ys) ≡ stopped ys) → cond b x.number (stopped (xs ++ ys)) ≡ stopped ys
    go true f ih = absurd (lacks_first 0 x xs k (sym f ∙ z))
    go false f ih = ih f z

-- the number that stops the call, or 0, is not among the first rows: none of them stops it, and the others give that number
pub later_stops : (xs ys : List Row) (v : ℕ) → lacks v xs ≡ true → stopped (xs ++ ys) ≡ v → (stopped xs ≡ 0) × (stopped ys ≡ v)
unfolding stopped
later_stops [] ys v k e = (refl, e)
later_stops (x ∷ xs) ys v k e = go x.stops e (later_stops xs ys v (lacks_rest v x xs k))
  where
    go : (b : Bool) → cond b x.number (stopped (xs ++ ys)) ≡ v → (stopped (xs ++ ys) ≡ v → (stopped xs ≡ 0) × (stopped ys ≡ v)) → (cond b x.number (stopped xs) ≡ 0) × (stopped ys ≡ v)
    go true f ih = absurd (lacks_first v x xs k f)
    go false f ih = ih f

-- a row that stops the call holds
pub row_holds : (n : ℕ) (b : Bool) → stopped (row (suc n) b ∷ []) ≡ suc n → b ≡ true
unfolding stopped
row_holds n true e = refl
row_holds n false e = absurd (omega arith)

-- the others decide, where the first pass; so the next row, where it stops the call
pub decides : (xs ys : List Row) (v w : ℕ) → numbered xs ≡ true → v ≡ stopped xs → v ≡ 0 → w ≡ stopped ys → w ≡ stopped (xs ++ ys)
decides xs ys v w k e z f = f ∙ sym (passes_on xs ys v k e z)

pub stopped_by : (xs later : List Row) (n : ℕ) (b : Bool) → numbered xs ≡ true → stopped xs ≡ 0 → b ≡ true → stopped (xs ++ (row n b ∷ later)) ≡ n
stopped_by xs later n b k passes e = sym (decides xs (row n b ∷ later) 0 n k (sym passes) refl (row_stops n b later e))

-- a last row that is wider stops the call with the same number
pub wider : (xs : List Row) (k : ℕ) (a b : Bool) (v : ℕ) → v ≡ stopped (xs ++ (row k a ∷ [])) → (v ≡ 0 → ⊥) → v ≡ stopped (xs ++ (row k (a || b) ∷ []))
unfolding stopped
wider [] k true b v e n = e
wider [] k false b v e n = absurd (n e)
wider (x ∷ xs) k a b v e n = go x.stops e (wider xs k a b v)
  where
    go : (s : Bool) → v ≡ cond s x.number (stopped (xs ++ (row k a ∷ []))) → (v ≡ stopped (xs ++ (row k a ∷ [])) → (v ≡ 0 → ⊥) → v ≡ stopped (xs ++ (row k (a || b) ∷ [])))
        → v ≡ cond s x.number (stopped (xs ++ (row k (a || b) ∷ [])))
    go true f ih = f
    go false f ih = ih f n

-- a call that a row stops, and one that is accepted
pub unless_stopped : {A : Type 0} (n : ℕ) (f : ℕ → A) (a : A) → (n ≡ 0 → ⊥) → f n ≡ unless n f a
unfolding unless
unless_stopped zero f a h = absurd (h refl)
unless_stopped (suc n) f a h = refl

pub unless_accepted : {A : Type 0} (n : ℕ) (f : ℕ → A) (a : A) → n ≡ 0 → a ≡ unless n f a
unfolding unless
unless_accepted n f a e = rw e

-- what holds of both, by the number; and of two calls that the same rows stop
pub unless_case : {A : Type 0} (P : A → Type 0) (n : ℕ) (f : ℕ → A) (a : A) → ((k : ℕ) → n ≡ suc k → P (f (suc k))) → (n ≡ 0 → P a) → P (unless n f a)
unfolding unless
unless_case P zero f a stops goes = goes refl
unless_case P (suc n) f a stops goes = stops n refl

pub unless_both : {A B : Type 0} (P : A → B → Type 0) (n : ℕ) (f : ℕ → A) (a : A) (g : ℕ → B) (b : B)
    → ((k : ℕ) → n ≡ suc k → P (f (suc k)) (g (suc k))) → (n ≡ 0 → P a b) → P (unless n f a) (unless n g b)
unfolding unless
unless_both P zero f a g b stops goes = goes refl
unless_both P (suc n) f a g b stops goes = stops n refl
