-- Laws for loops over records of one size that stand one after the other: i of n records have been passed.
use Prim.Native.Nat.{ℕ, zero, suc, ◌+◌, ◌-◌, ◌*◌, ◌<◌, ◌≤◌}
use mathlib.Core.Path.{◌≡◌, refl, ap}
use mathlib.Core.Bool.{Bool, true, false, ◌&&◌, ◌||◌}
use mathlib.Core.List.{List, [], ◌∷◌}
use native.Mathlib.Nat.{mul-suc}
use native.Mathlib.Numerals.{add-one}
use native.Mathlib.Omega.{arith}
use lib.Dec.{eqb}
use lib.ListN.{length, take, drop, length-drop}
use borrow.Author.Tests.{eq-eqb}
use lib.Seq.{drop-drop, length-take-le}
use Rattle.carts.specs.Bytes.{every, any, parts, each_part}
use Rattle.carts.proofs.ScanLaws.{test_more, test_end, either_more, either_end}
pub use Rattle.carts.proofs.EachLaws.{each_at, at_each as each_of}

-- past one record more
pub drop_next : (size i : ℕ) (s : List ℕ) → drop size (drop (size * i) s) ≡ drop (size * (i + 1)) s
drop_next size i s = rw (add-one, mul-suc) (drop-drop size (size * i) s)

-- one left more
pub left_suc : (n i : ℕ) → i < n → n - i ≡ suc (n - (i + 1))
left_suc n i h = omega arith

-- the records left: the first, and the others
pub parts_next : (size n i : ℕ) (s : List ℕ) → i < n → parts size (n - i) (drop (size * i) s) ≡ take size (drop (size * i) s) ∷ parts size (n - (i + 1)) (drop (size * (i + 1)) s)
unfolding parts
parts_next size n i s h = rw (left_suc n i h, ← drop_next size i s)

pub parts_end : (size n i : ℕ) (s : List ℕ) → n ≤ i → parts size (n - i) s ≡ []
unfolding parts
parts_end size n i s h = let e : n - i ≡ 0 = omega arith in rw e

-- a turn of a loop that joins the tests of records, and its end; m is the number of the first record left
module _ (test : ℕ → List ℕ → Bool) (size n i m : ℕ) (s : List ℕ) where
  each_next : i < n → each_part test size (n - i) m (drop (size * i) s) ≡ (test m (take size (drop (size * i) s)) && each_part test size (n - (i + 1)) (m + 1) (drop (size * (i + 1)) s))
  unfolding each_part
  each_next h = rw (left_suc n i h, ← drop_next size i s)

  pub each_more : (ok : Bool) {new whole : Bool} → i < n → whole ≡ (ok && each_part test size (n - i) m (drop (size * i) s)) → new ≡ (ok && test m (take size (drop (size * i) s))) → whole ≡ (new && each_part test size (n - (i + 1)) (m + 1) (drop (size * (i + 1)) s))
  each_more ok h inv e = test_more ok (test m (take size (drop (size * i) s))) (each_part test size (n - (i + 1)) (m + 1) (drop (size * (i + 1)) s)) inv (each_next h) e

  each_end : n ≤ i → each_part test size (n - i) m (drop (size * i) s) ≡ true
  unfolding each_part
  each_end h = let e : n - i ≡ 0 = omega arith in rw e

  pub each_done : (ok : Bool) {whole : Bool} → n ≤ i → whole ≡ (ok && each_part test size (n - i) m (drop (size * i) s)) → ok ≡ whole
  each_done ok h inv = test_end ok inv (each_end h)

-- a test that does not ask for the number
pub every_parts : (p : List ℕ → Bool) (size n m : ℕ) (s : List ℕ) → every p (parts size n s) ≡ each_part (λ k. p) size n m s
unfolding every parts each_part
every_parts p size zero m s = refl
every_parts p size (suc n) m s = ap (λ b. p (take size s) && b) (every_parts p size n (m + 1) (drop size s))

-- a turn of a loop that looks for a record that passes a test, and its end
module _ (p : List ℕ → Bool) (size n i : ℕ) (s : List ℕ) (found : Bool) where
  any_next : i < n → any p (parts size (n - i) (drop (size * i) s)) ≡ (p (take size (drop (size * i) s)) || any p (parts size (n - (i + 1)) (drop (size * (i + 1)) s)))
  unfolding any
  any_next h = rw (parts_next size n i s h)

  pub any_more : {new whole : Bool} → i < n → whole ≡ (found || any p (parts size (n - i) (drop (size * i) s))) → new ≡ (found || p (take size (drop (size * i) s))) → whole ≡ (new || any p (parts size (n - (i + 1)) (drop (size * (i + 1)) s)))
  any_more h inv e = either_more found (p (take size (drop (size * i) s))) (any p (parts size (n - (i + 1)) (drop (size * (i + 1)) s))) inv (any_next h) e

  any_end : n ≤ i → any p (parts size (n - i) (drop (size * i) s)) ≡ false
  unfolding any
  any_end h = rw (parts_end size n i (drop (size * i) s) h)

  pub any_done : {whole : Bool} → n ≤ i → whole ≡ (found || any p (parts size (n - i) (drop (size * i) s))) → found ≡ whole
  any_done h inv = either_end found inv (any_end h)

-- each part has its size
pub sized_parts : (size n : ℕ) (s : List ℕ) → size * n ≤ length s → every (λ r. eqb (length r) size) (parts size n s) ≡ true
unfolding every parts
sized_parts size zero s h = refl
sized_parts size (suc n) s h =
    let q : size * suc n ≡ size * n + size = mul-suc size n in
    let l : length (take size s) ≡ size = length-take-le size s (omega arith) in
    let d : size * n ≤ length (drop size s) = rw length-drop (omega arith) in
    rw (eq-eqb (length (take size s)) size l, sized_parts size n (drop size s) d)
