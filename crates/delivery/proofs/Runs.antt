-- Runs k + 1, k + 2, .. that can be picked from a list in its order.
use mathlib.Core.Path.{◌≡◌, refl, sym, ap}
use mathlib.Core.Bool.{Bool, true, false}
use mathlib.Core.Logic.{◌⊎◌, inl, inr}
use mathlib.Core.List.Sublistᴰ
use mathlib.Core.List.{List, [], ◌∷◌, Sublistᴰ}
use Prim.Native.Nat.{ℕ, zero, suc, ◌+◌, ◌≤◌}
use native.Mathlib.Omega.{arith}
use native.Mathlib.Numerals.{add-one}
use lib.ListN.{length}
use lib.Dec.{leb}
use borrow.Author.Tests.{leb-true, leb-false}
use Rattle.edit_log.specs.Log.{up_from}

up_one : (r d : ℕ) → up_from r (d + 1) ≡ r ∷ up_from (r + 1) d
unfolding up_from
up_one r d = ap (up_from r) (add-one d)

-- d of them can be picked, and no more
pub record Run (k d : ℕ) (ns : List ℕ) : Type 0 where
  pub picked : Sublistᴰ (up_from (k + 1) d) ns
  pub no_more : Sublistᴰ (up_from (k + 1) (d + 1)) ns → ⊥

without_first : {x : ℕ} {xs ns : List ℕ} → Sublistᴰ (x ∷ xs) ns → Sublistᴰ xs ns
without_first {x} {xs} s = Sublistᴰ.trans (Sublistᴰ.cons (Sublistᴰ.refl xs)) s

-- the empty list; the next number before a list; another number before it
pub run_none : (k : ℕ) → Run k 0 []
unfolding up_from
run_none k = record { picked = Sublistᴰ.slnil; no_more = λ s. let e = ap length (Sublistᴰ.eq-nil s) in omega arith }

pub run_next : (k d : ℕ) (ns : List ℕ) → Run (k + 1) d ns → Run k (d + 1) ((k + 1) ∷ ns)
run_next k d ns r = record {
  picked = rw (up_one (k + 1) d) (Sublistᴰ.cons-cons refl r.picked);
  no_more = λ s. go (Sublistᴰ.cases_cons-cons (rw (up_one (k + 1) (d + 1)) at s));
}
  where
    go : Sublistᴰ ((k + 1) ∷ up_from (k + 1 + 1) (d + 1)) ns ⊎ ((k + 1 ≡ k + 1) × Sublistᴰ (up_from (k + 1 + 1) (d + 1)) ns) → ⊥
    go (inl s) = r.no_more (without_first s)
    go (inr s) = r.no_more s.1

pub run_other : (k d n : ℕ) (ns : List ℕ) → (n ≡ k + 1 → ⊥) → Run k d ns → Run k d (n ∷ ns)
run_other k d n ns ne r = record {
  picked = Sublistᴰ.cons r.picked;
  no_more = λ s. go (Sublistᴰ.cases_cons-cons (rw (up_one (k + 1) d) at s));
}
  where
    go : Sublistᴰ ((k + 1) ∷ up_from (k + 1 + 1) d) ns ⊎ ((k + 1 ≡ n) × Sublistᴰ (up_from (k + 1 + 1) d) ns) → ⊥
    go (inl s) = r.no_more (rw (up_one (k + 1) d) s)
    go (inr s) = ne (sym s.0)

-- a longer run has a shorter one in it
shorter : (r j d : ℕ) → j ≤ d → Sublistᴰ (up_from r j) (up_from r d)
unfolding up_from
shorter r zero d h = Sublistᴰ.nil-sublist (up_from r d)
shorter r (suc j) zero h = let z : ⊥ = omega arith in absurd z
shorter r (suc j) (suc d) h = Sublistᴰ.cons-cons refl (shorter (r + 1) j d (omega arith))

pub longest : (k : ℕ) (ns : List ℕ) → (Sublistᴰ (up_from 1 (k + 1)) ns → ⊥) → (j : ℕ) → Sublistᴰ (up_from 1 j) ns → j ≤ k
longest k ns not-longer j s = go (leb j k) refl
  where
    go : (b : Bool) → leb j k ≡ b → j ≤ k
    go true e = leb-true j k e
    go false e = absurd (not-longer (Sublistᴰ.trans (shorter 1 (k + 1) j (omega (arith, leb-false j k e))) s))
