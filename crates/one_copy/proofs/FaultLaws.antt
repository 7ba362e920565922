-- Laws of the operation at fault.
use Rattle.std.proofs.Common.{◌≡◌, ℕ, zero, suc, ◌+◌, ◌-◌, ◌*◌, ◌≤◌, true, false, cond, List, refl, arith, add-zero, add-one, eqb, Some, None}
use Rattle.carts.specs.Refusal.{refusal_number}
use Rattle.carts.specs.declared.refusal.Refusal.{Refusal}
use Rattle.carts.specs.declared.refusal.Refusal.TheVariants.{SpacedTitle}
use Rattle.lines.specs.Text.{part_in}
use Rattle.one_copy.specs.Fault.{allowed, or_this, first_fault}

-- 16 is the number of SpacedTitle alone
pub other_than_16 : (r : Refusal) → (r ≡ SpacedTitle → ⊥) → eqb (refusal_number r) 16 ≡ false
other_than_16 SpacedTitle n = absurd (n refl)
other_than_16 _ n = refl

-- the operations before number i are allowed: with number i there is no fault yet, or it is the first
module _ (copy : List ℕ) (row : ℕ) (ops : List ℕ) where
  pub fault_more : (i : ℕ) → first_fault copy row ops (i + 1) ≡ or_this (first_fault copy row ops i) (allowed copy row (part_in ops 0 (80 * (i + 1)))) (i + 1)
  unfolding first_fault
  fault_more i = rw add-one

  pub none_before : first_fault copy row ops 0 ≡ None
  unfolding first_fault
  none_before = refl

  one_more : (i : ℕ) → 1 ≤ i → first_fault copy row ops (i - 1) ≡ None → first_fault copy row ops i ≡ cond (allowed copy row (part_in ops 0 (80 * i))) None (Some i)
  one_more i h e = let q : i - 1 + 1 ≡ i = omega arith in let s = fault_more (i - 1) in rw (q, e) at s

  pub none_yet : (i : ℕ) → 1 ≤ i → first_fault copy row ops (i - 1) ≡ None → allowed copy row (part_in ops 0 (80 * i)) ≡ true → first_fault copy row ops i ≡ None
  none_yet i h e a = rw a at (one_more i h e)

  stays : (k i : ℕ) → first_fault copy row ops i ≡ Some i → first_fault copy row ops (i + k) ≡ Some i
  stays zero i e = rw add-zero e
  stays (suc k) i e = let q : i + suc k ≡ i + k + 1 = omega arith in rw (q, fault_more (i + k), stays k i e) refl

  pub found : (i : ℕ) → 1 ≤ i → i ≤ 8 → first_fault copy row ops (i - 1) ≡ None → allowed copy row (part_in ops 0 (80 * i)) ≡ false → first_fault copy row ops 8 ≡ Some i
  found i h l e a = let q : i + (8 - i) ≡ 8 = omega arith in rw q at (stays (8 - i) i (rw a at (one_more i h e)))
