-- Laws of zeros: their parts, and the parts of a list that is all zero.
use Prim.Native.Nat.{ℕ, zero, suc, ◌+◌, ◌-◌, ◌≤◌}
use mathlib.Core.Path.{◌≡◌, refl, ap, ◌∙◌}
use mathlib.Core.Bool.{true}
use mathlib.Core.List.{List, [], ◌∷◌}
use native.Mathlib.Omega.{arith}
use lib.Dec.{eqb}
use lib.ListN.{length, take, drop, get_or, length-replicate}
use borrow.Author.Tests.{eqb-true}
use Rattle.carts.specs.Bytes.{zeros, part, every, all_zero}
use Rattle.carts.proofs.TestLaws.{and_left, and_right}

pub length_zeros : (n : ℕ) → length (zeros n) ≡ n
unfolding zeros
length_zeros n = length-replicate n 0

pub zeros_at : (n i : ℕ) → get_or (zeros n) i 0 ≡ 0
unfolding zeros
zeros_at zero i = refl
zeros_at (suc n) zero = refl
zeros_at (suc n) (suc i) = zeros_at n i

take_zeros : (n k : ℕ) → k ≤ n → take k (zeros n) ≡ zeros k
unfolding zeros
take_zeros n zero h = refl
take_zeros zero (suc k) h = let z : ⊥ = omega arith in absurd z
take_zeros (suc n) (suc k) h = ap (λ (l : List ℕ). 0 ∷ l) (take_zeros n k (omega arith))

drop_zeros : (n k : ℕ) → drop k (zeros n) ≡ zeros (n - k)
unfolding zeros
drop_zeros n zero = let e : n ≡ n - 0 = omega arith in ap zeros e
drop_zeros zero (suc k) = let e : 0 ≡ 0 - suc k = omega arith in ap zeros e
drop_zeros (suc n) (suc k) = let e : n - k ≡ suc n - suc k = omega arith in drop_zeros n k ∙ ap zeros e

pub part_zeros : (n a k : ℕ) → a + k ≤ n → part (zeros n) a k ≡ zeros k
part_zeros n a k h = ap (take k) (drop_zeros n a) ∙ take_zeros (n - a) k (omega arith)

-- zeros are all zero, and nothing else is
pub zero_zeros : (n : ℕ) → all_zero (zeros n) ≡ true
unfolding all_zero every zeros
zero_zeros zero = refl
zero_zeros (suc n) = zero_zeros n

-- the first byte of a list that is all zero, and the others
pub zero_first : (b : ℕ) (s : List ℕ) → all_zero (b ∷ s) ≡ true → (b ≡ 0) × (all_zero s ≡ true)
unfolding all_zero every
zero_first b s e = (eqb-true b 0 (and_left (eqb b 0) (all_zero s) e), and_right (eqb b 0) (all_zero s) e)

pub zeros_of : (s : List ℕ) → all_zero s ≡ true → s ≡ zeros (length s)
unfolding all_zero every zeros
zeros_of [] e = refl
zeros_of (x ∷ s) e = let p = zero_first x s e in ap (λ y. y ∷ s) p.0 ∙ ap (λ r. 0 ∷ r) (zeros_of s p.1)

-- a part of them
zero_take : (n : ℕ) (s : List ℕ) → all_zero s ≡ true → all_zero (take n s) ≡ true
unfolding all_zero every
zero_take zero s e = refl
zero_take (suc n) [] e = refl
zero_take (suc n) (x ∷ s) e = let p = zero_first x s e in rw p.0 (zero_take n s p.1)

pub zero_drop : (n : ℕ) (s : List ℕ) → all_zero s ≡ true → all_zero (drop n s) ≡ true
zero_drop zero s e = e
zero_drop (suc n) [] e = e
zero_drop (suc n) (x ∷ s) e = zero_drop n s (zero_first x s e).1

pub zero_part : (s : List ℕ) (at n : ℕ) → all_zero s ≡ true → all_zero (part s at n) ≡ true
zero_part s at n e = zero_take n (drop at s) (zero_drop at s e)
