-- Laws of parts of one size: one of them replaced, and tests of each of them.
use mathlib.Core.Path.{◌≡◌, refl, ap, ◌∙◌}
use mathlib.Core.Bool.{Bool, true}
use mathlib.Core.List.{List, []}
use Prim.Native.Nat.{ℕ, zero, suc, ◌+◌, ◌-◌, ◌*◌, ◌≤◌, ◌<◌}
use native.Mathlib.Omega.{arith}
use native.Mathlib.Nat.{add-zero, add-sub_cancel_left, mul-zero, mul-suc, mul-le-mul_left}
use native.Mathlib.Decide.{dec_le}
use lib.ListN.{length, take, drop, get_or}
use lib.Seq.{drop-drop}
use Rattle.carts.specs.Bytes.{part, over, parts, each_part}
use Rattle.carts.proofs.PartLaws.{length_part, over_before, over_after}
use Rattle.carts.proofs.TestLaws.{and_left, and_right}

-- part i of `size` bytes, as the code lends it
pub lent : (size i : ℕ) (s : List ℕ) → take (size * i + size - size * i) (drop (size * i) s) ≡ part s (size * i) size
lent size i s = rw add-sub_cancel_left

pub length_lent : (size i : ℕ) (s : List ℕ) → size * i + size ≤ length s → length (take (size * i + size - size * i) (drop (size * i) s)) ≡ size
length_lent size i s h = ap length (lent size i s) ∙ length_part s (size * i) size h

-- parts of one size: one that comes before another ends before it; part i of them replaced leaves the others
pub apart : (size k i : ℕ) → k < i → size * k + size ≤ size * i
apart size k i h = rw (← mul-suc size k) (mul-le-mul_left size h)

pub record_other : (s ys : List ℕ) (size i k : ℕ) → size * i ≤ length s → length ys ≡ size → (k ≡ i → ⊥) → part (over s (size * i) size ys) (size * k) size ≡ part s (size * k) size
record_other s ys size i k h e ne = go (dec_le i k)
  where
    go : Dec (i ≤ k) → part (over s (size * i) size ys) (size * k) size ≡ part s (size * k) size
    go (yes l) = over_after s (size * i) size ys (size * k) size h e (apart size i k (omega arith))
    go (no l) = over_before s (size * i) size ys (size * k) size h (apart size k i (omega arith))

-- the parts of one size, and what stands at each
pub next_part : (size i : ℕ) (s : List ℕ) → part (drop size s) (size * i) size ≡ part s (size * suc i) size
next_part size i s =
    let k : size + size * i ≡ size * suc i = rw mul-suc (omega arith) in
    ap (take size) (drop-drop (size * i) size s ∙ ap (λ k. drop k s) k)

pub length_parts : (size n : ℕ) (s : List ℕ) → length (parts size n s) ≡ n
unfolding parts
length_parts size zero s = refl
length_parts size (suc n) s = ap suc (length_parts size n (drop size s))

pub parts_at : (size n : ℕ) (s : List ℕ) (i : ℕ) → i < n → get_or (parts size n s) i [] ≡ part s (size * i) size
unfolding parts
parts_at size zero s i h = let z : ⊥ = omega arith in absurd z
parts_at size (suc n) s zero h = rw mul-zero
parts_at size (suc n) s (suc i) h = parts_at size n (drop size s) i (omega arith) ∙ next_part size i s

-- a test of each part, read at one of them, and from all of them
module _ (test : ℕ → List ℕ → Bool) (size : ℕ) where
  pub each_at : (n i : ℕ) (s : List ℕ) → each_part test size n i s ≡ true → (j : ℕ) → j < n → test (i + j) (part s (size * j) size) ≡ true
  unfolding each_part
  each_at zero i s h j l = let z : ⊥ = omega arith in absurd z
  each_at (suc n) i s h zero l = rw (add-zero i, mul-zero) (and_left (test i (take size s)) (each_part test size n (i + 1) (drop size s)) h)
  each_at (suc n) i s h (suc j) l =
      let k : i + 1 + j ≡ i + suc j = omega arith in
      rw (← k, ← next_part size j s) (each_at n (i + 1) (drop size s) (and_right (test i (take size s)) (each_part test size n (i + 1) (drop size s)) h) j (omega arith))

  pub at_each : (n i : ℕ) (s : List ℕ) → ((j : ℕ) → j < n → test (i + j) (part s (size * j) size) ≡ true) → each_part test size n i s ≡ true
  unfolding each_part
  at_each zero i s f = refl
  at_each (suc n) i s f =
      let a : test i (take size s) ≡ true = rw (add-zero i, mul-zero) at (f 0 (omega arith)) in
      let r : each_part test size n (i + 1) (drop size s) ≡ true = at_each n (i + 1) (drop size s) (λ j l.
      let k : i + 1 + j ≡ i + suc j = omega arith in rw (k, next_part size j s) (f (suc j) (omega arith))) in
      rw (a, r)

-- parts counted from 1
pub from_one : (test : ℕ → List ℕ → Bool) (size n : ℕ) (s : List ℕ) → each_part test size n 1 s ≡ true
    → (i : ℕ) → 1 ≤ i → i ≤ n → test i (part s (size * (i - 1)) size) ≡ true
from_one test size n s h i l g = let e : 1 + (i - 1) ≡ i = omega arith in rw e at (each_at test size n 1 s h (i - 1) (omega arith))

pub to_one : (test : ℕ → List ℕ → Bool) (size n : ℕ) (s : List ℕ)
    → ((i : ℕ) → 1 ≤ i → i ≤ n → test i (part s (size * (i - 1)) size) ≡ true) → each_part test size n 1 s ≡ true
to_one test size n s f = at_each test size n 1 s (λ j l. rw add-sub_cancel_left at (f (1 + j) (omega arith) (omega arith)))
