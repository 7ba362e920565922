-- Laws of list tests, for loops that walk a list from its front: the whole test is the tests so far and the test of what is left.
use Prim.Native.Nat.{ℕ, zero, suc, ◌+◌, ◌<◌, ◌≤◌}
use mathlib.Core.Path.{◌≡◌, refl, sym, ap, ◌∙◌}
use mathlib.Core.Bool.{Bool, true, false, ◌&&◌, ◌||◌, and_assoc, and-true, or_assoc, or-false}
use mathlib.Core.List.{List, [], ◌∷◌}
use native.Mathlib.Numerals.{add-one}
use native.Mathlib.Omega.{arith}
use lib.ListN.{length, get_or, drop, drop_of_length-le}
use lib.Seq.{drop-cons}
use lib.Bits.{bit_or, or_zero_l, or_add_and, and_le_r}
use borrow.Author.Tests.{ne_eqb}
use lib.Dec.{eqb, eqb-suc-zero}
use Rattle.carts.specs.Bytes.{within, all, every, pairwise}
use Rattle.carts.proofs.TestLaws.{within_low, within_high}
pub use Rattle.carts.proofs.TestLaws.{and_left, and_right, within_of, pairwise_eq as pairwise-equal}
pub use Rattle.carts.proofs.ZeroLaws.{zero_part, zero_zeros, zeros_of}

-- a turn of a loop that joins tests, and its end: by an associative operation and its unit
module _ (join : Bool → Bool → Bool) (assoc : (a b c : Bool) → join (join a b) c ≡ join a (join b c)) (unit : Bool) (right : (a : Bool) → join a unit ≡ a) where
  join_more : (a t next : Bool) {new whole left : Bool} → whole ≡ join a left → left ≡ join t next → new ≡ join a t → whole ≡ join new next
  join_more a t next p q e = p ∙ ap (join a) q ∙ sym (assoc a t next) ∙ ap (λ b. join b next) (sym e)

  join_end : (a : Bool) {whole left : Bool} → whole ≡ join a left → left ≡ unit → a ≡ whole
  join_end a p q = sym (p ∙ ap (join a) q ∙ right a)

-- every test holds
pub test_more : (ok t next : Bool) {new whole left : Bool} → whole ≡ (ok && left) → left ≡ (t && next) → new ≡ (ok && t) → whole ≡ (new && next)
test_more = join_more ◌&&◌ and_assoc true and-true

pub test_end : (ok : Bool) {whole left : Bool} → whole ≡ (ok && left) → left ≡ true → ok ≡ whole
test_end = join_end ◌&&◌ and_assoc true and-true

-- some test holds
pub either_more : (found t next : Bool) {new whole left : Bool} → whole ≡ (found || left) → left ≡ (t || next) → new ≡ (found || t) → whole ≡ (new || next)
either_more = join_more ◌||◌ or_assoc false or-false

pub either_end : (found : Bool) {whole left : Bool} → whole ≡ (found || left) → left ≡ false → found ≡ whole
either_end = join_end ◌||◌ or_assoc false or-false

-- from a joint test to its parts
pub within_true : (low high n : ℕ) → within low high n ≡ true → (low ≤ n) × (n ≤ high)
within_true low high n e = (within_low low high n e, within_high low high n e)

-- a test that another one implies
pub every_implied : {A : Type 0} (p q : A → Bool) (xs : List A) → ((x : A) → p x ≡ true → q x ≡ true) → every p xs ≡ true → every q xs ≡ true
unfolding every
every_implied p q [] f e = refl
every_implied p q (x ∷ xs) f e = rw (f x (and_left (p x) (every p xs) e), every_implied p q xs f (and_right (p x) (every p xs) e))

-- tests joined by `&` from the left are `all` of their list
abbrev pub join_all : Bool → List Bool → Bool
join_all a [] = a
join_all a (b ∷ bs) = join_all (a && b) bs

pub join_all_law : (a : Bool) (bs : List Bool) → join_all a bs ≡ all (a ∷ bs)
unfolding all
join_all_law a [] = sym (and-true a)
join_all_law a (b ∷ bs) = join_all_law (a && b) bs ∙ and_assoc a b (all bs)

-- `|` is 0 where both its parts are
pub or_zero : (a x : ℕ) → eqb (bit_or a x) 0 ≡ (eqb a 0 && eqb x 0)
or_zero zero x = simp or_zero_l
or_zero (suc a) x =
    let p = or_add_and (suc a) x in
    let q = and_le_r (suc a) x in
    let n : bit_or (suc a) x ≡ 0 → ⊥ = λ e. omega arith in
    simp (ne_eqb (bit_or (suc a) x) 0 n, eqb-suc-zero)

-- the first element left, and the others
every_step : (p : ℕ → Bool) (xs : List ℕ) (i : ℕ) → i < length xs → every p (drop i xs) ≡ (p (get_or xs i 0) && every p (drop (i + 1) xs))
unfolding every
every_step p xs i h = rw (add-one, drop-cons xs i 0)

every_end : (p : ℕ → Bool) (xs : List ℕ) (i : ℕ) → length xs ≤ i → every p (drop i xs) ≡ true
unfolding every
every_end p xs i h = rw (drop_of_length-le xs h)

pub every_more : (p : ℕ → Bool) (xs : List ℕ) (i : ℕ) (ok : Bool) {new : Bool} → i < length xs → every p xs ≡ (ok && every p (drop i xs)) → new ≡ (ok && p (get_or xs i 0)) → every p xs ≡ (new && every p (drop (i + 1) xs))
every_more p xs i ok h inv e = test_more ok (p (get_or xs i 0)) (every p (drop (i + 1) xs)) inv (every_step p xs i h) e

pub every_done : (p : ℕ → Bool) (xs : List ℕ) (i : ℕ) (ok : Bool) → length xs ≤ i → every p xs ≡ (ok && every p (drop i xs)) → ok ≡ every p xs
every_done p xs i ok h inv = test_end ok inv (every_end p xs i h)

-- the same for two lists of one length
pairwise_step : (r : ℕ → ℕ → Bool) (a b : List ℕ) (i : ℕ) → i < length a → i < length b → pairwise r (drop i a) (drop i b) ≡ (r (get_or a i 0) (get_or b i 0) && pairwise r (drop (i + 1) a) (drop (i + 1) b))
unfolding pairwise
pairwise_step r a b i h k = rw (add-one, drop-cons a i 0, drop-cons b i 0)

pairwise_end : (r : ℕ → ℕ → Bool) (a b : List ℕ) (i : ℕ) → length a ≤ i → length b ≤ i → pairwise r (drop i a) (drop i b) ≡ true
unfolding pairwise
pairwise_end r a b i h k = rw (drop_of_length-le a h, drop_of_length-le b k)

pub pairwise_more : (r : ℕ → ℕ → Bool) (a b : List ℕ) (i : ℕ) (ok : Bool) {new : Bool} → length a ≡ length b → i < length a → pairwise r a b ≡ (ok && pairwise r (drop i a) (drop i b)) → new ≡ (ok && r (get_or a i 0) (get_or b i 0)) → pairwise r a b ≡ (new && pairwise r (drop (i + 1) a) (drop (i + 1) b))
pairwise_more r a b i ok l h inv e = test_more ok (r (get_or a i 0) (get_or b i 0)) (pairwise r (drop (i + 1) a) (drop (i + 1) b)) inv (pairwise_step r a b i h (omega arith)) e

pub pairwise_done : (r : ℕ → ℕ → Bool) (a b : List ℕ) (i : ℕ) (ok : Bool) → length a ≡ length b → length a ≤ i → pairwise r a b ≡ (ok && pairwise r (drop i a) (drop i b)) → ok ≡ pairwise r a b
pairwise_done r a b i ok l h inv = test_end ok inv (pairwise_end r a b i h (omega arith))
