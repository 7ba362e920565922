-- Laws of the first cart at fault.
use Prim.Native.Nat.{ℕ, zero, suc, ◌+◌, ◌-◌, ◌*◌, ◌<◌, ◌≤◌}
use mathlib.Core.Path.{◌≡◌, refl, sym, ◌∙◌}
use mathlib.Core.Bool.{Bool, true, false, cond, not, ◌&&◌, ◌||◌}
use mathlib.Core.List.{List}
use native.Mathlib.Omega.{arith}
use Rattle.std.specs.Prelude.{Option, Some, None}
use lib.ListN.{take, drop}
use Rattle.carts.specs.Bytes.{part, any, parts, each_part}
use Rattle.carts.proofs.RecordLaws.{left_suc, drop_next}
use Rattle.convert.specs.Fault.{first_fault}

-- a turn of the loop that looks for the first part at fault, and its two ends; i of n parts have been passed
module _ (test : ℕ → List ℕ → Bool) (size n i : ℕ) (s : List ℕ) {whole : Option ℕ} (inv : whole ≡ first_fault test size (n - i) (i + 1) (drop (size * i) s)) where
  fault_next : i < n → whole ≡ cond (test (i + 1) (part s (size * i) size)) (first_fault test size (n - (i + 1)) (i + 1 + 1) (drop (size * (i + 1)) s)) (Some (i + 1))
  unfolding first_fault
  fault_next h = inv ∙ rw (left_suc n i h, ← drop_next size i s)

  pub fault_more : i < n → test (i + 1) (part s (size * i) size) ≡ true → whole ≡ first_fault test size (n - (i + 1)) (i + 1 + 1) (drop (size * (i + 1)) s)
  fault_more h e = fault_next h ∙ rw e

  pub fault_here : i < n → test (i + 1) (part s (size * i) size) ≡ false → Some (i + 1) ≡ whole
  fault_here h e = sym (fault_next h ∙ rw e)

  pub fault_none : n ≤ i → None ≡ whole
  unfolding first_fault
  fault_none h = let e : n - i ≡ 0 = omega arith in sym (inv ∙ rw e)

abbrev pub is_none : {A : Type 0} → Option A → Bool
is_none None = true
is_none (Some x) = false

-- there is a first part at fault exactly where not each part passes
module _ (test : ℕ → List ℕ → Bool) (size : ℕ) where
  pub fault_found : (n i : ℕ) (s : List ℕ) → each_part test size n i s ≡ is_none (first_fault test size n i s)
  unfolding first_fault each_part
  fault_found zero i s = refl
  fault_found (suc n) i s = pick (test i (take size s)) (fault_found n (i + 1) (drop size s))
    where
      pick : (b : Bool) → each_part test size n (i + 1) (drop size s) ≡ is_none (first_fault test size n (i + 1) (drop size s))
          → (b && each_part test size n (i + 1) (drop size s)) ≡ is_none (cond b (first_fault test size n (i + 1) (drop size s)) (Some i))
      pick true e = e
      pick false e = refl

  -- it is one of them
  pub fault_named : (n i c : ℕ) (s : List ℕ) → first_fault test size n i s ≡ Some c → (i ≤ c) × (c < i + n)
  unfolding first_fault
  fault_named zero i c s e = let z : ◌≡◌ {A = ℕ} 0 1 = cc in absurd (omega arith)
  fault_named (suc n) i c s e = pick (test i (take size s)) (fault_named n (i + 1) c (drop size s)) e
    where
      pick : (b : Bool) → (first_fault test size n (i + 1) (drop size s) ≡ Some c → (i + 1 ≤ c) × (c < i + 1 + n))
          → cond b (first_fault test size n (i + 1) (drop size s)) (Some i) ≡ Some c → (i ≤ c) × (c < i + suc n)
      pick true f e = let r = f e in (omega arith, omega arith)
      pick false f e = let k : i ≡ c = cc in (omega arith, omega arith)

-- some part passes a test exactly where not each one fails it
pub any_each : (p : List ℕ → Bool) (size n i : ℕ) (s : List ℕ) → any p (parts size n s) ≡ not (each_part (λ k part. not (p part)) size n i s)
unfolding any parts each_part
any_each p size zero i s = refl
any_each p size (suc n) i s = pick (p (take size s)) (any_each p size n (i + 1) (drop size s))
  where
    pick : (b : Bool) → any p (parts size n (drop size s)) ≡ not (each_part (λ k part. not (p part)) size n (i + 1) (drop size s))
        → (b || any p (parts size n (drop size s))) ≡ not (not b && each_part (λ k part. not (p part)) size n (i + 1) (drop size s))
    pick true e = refl
    pick false e = e
