-- Laws of Bool tests: lists of tests, ranges, and tests of each element.
use mathlib.Core.Path.{◌≡◌, refl, sym, ap}
use mathlib.Core.Bool.{Bool, true, false, cond, ◌&&◌, ◌||◌, and-false, or-true, and-eq-true_iff, false≢true}
use mathlib.Core.List.{List, [], ◌∷◌, map}
use Prim.Native.Nat.{ℕ, zero, suc, ◌≤◌, ◌<◌}
use native.Mathlib.Omega.{arith}
use borrow.Author.Tests.{leb-true, le-leb, eqb-true, eq-eqb}
use lib.Dec.{leb, eqb}
use lib.ListN.{length, get_or, set}
use Rattle.carts.specs.Bytes.{within, all, every, any, pairwise}

pub and_left : (a b : Bool) → (a && b) ≡ true → a ≡ true
and_left a b h = ((and-eq-true_iff a b).0 h).0

pub and_right : (a b : Bool) → (a && b) ≡ true → b ≡ true
and_right a b h = ((and-eq-true_iff a b).0 h).1

pub and_both : (a b : Bool) → a ≡ true → b ≡ true → (a && b) ≡ true
and_both a b f g = (and-eq-true_iff a b).1 (f, g)

-- two tests that hold of the same
pub same_truth : (a b : Bool) → (a ≡ true → b ≡ true) → (b ≡ true → a ≡ true) → a ≡ b
same_truth true b f g = sym (f refl)
same_truth false true f g = g refl
same_truth false false f g = refl

-- none of two tests holds
pub or_false_both : (a b : Bool) → (a || b) ≡ false → (a ≡ false) × (b ≡ false)
or_false_both true b h = (h, absurd (false≢true (sym h)))
or_false_both false b h = (refl, h)

-- test n of a list that passes
pub all_at : (n : ℕ) (bs : List Bool) → all bs ≡ true → get_or bs n true ≡ true
unfolding all
all_at n [] h = refl
all_at zero (b ∷ bs) h = and_left b (all bs) h
all_at (suc n) (b ∷ bs) h = all_at n bs (and_right b (all bs) h)

-- one test of a list that passes replaced by another that passes
pub all_set : (n : ℕ) (bs : List Bool) (b : Bool) → all bs ≡ true → b ≡ true → all (set bs n b) ≡ true
unfolding all
all_set n [] b h g = refl
all_set zero (a ∷ bs) b h g = rw g (and_right a (all bs) h)
all_set (suc n) (a ∷ bs) b h g = rw (and_left a (all bs) h) (all_set n bs b (and_right a (all bs) h) g)

pub all_nil : all [] ≡ true
unfolding all
all_nil = refl

pub all_cons : (b : Bool) (bs : List Bool) → b ≡ true → all bs ≡ true → all (b ∷ bs) ≡ true
unfolding all
all_cons b bs h g = rw (h, g)

-- what holds of both sides of a test; and of two calls with one test
pub by_cond : {A : Type 0} (P : A → Type 0) (b : Bool) (x y : A) → (b ≡ true → P x) → (b ≡ false → P y) → P (cond b x y)
by_cond P true x y f g = f refl
by_cond P false x y f g = g refl

pub cond_both : {A B : Type 0} (P : A → B → Type 0) (b : Bool) (x y : A) (u v : B) → P x u → P y v → P (cond b x y) (cond b u v)
cond_both P true x y u v p q = p
cond_both P false x y u v p q = q

-- a range
pub within_low : (a b n : ℕ) → within a b n ≡ true → a ≤ n
unfolding within
within_low a b n h = leb-true a n (and_left (leb a n) (leb n b) h)

pub within_high : (a b n : ℕ) → within a b n ≡ true → n ≤ b
unfolding within
within_high a b n h = leb-true n b (and_right (leb a n) (leb n b) h)

pub within_of : (a b n : ℕ) → a ≤ n → n ≤ b → within a b n ≡ true
unfolding within
within_of a b n h g = rw (le-leb a n h, le-leb n b g)

-- an element of a list that passes
pub every_at : {A : Type 0} (p : A → Bool) (l : List A) (d : A) (i : ℕ) → every p l ≡ true → i < length l → p (get_or l i d) ≡ true
unfolding every
every_at p [] d i h l = let z : ⊥ = omega arith in absurd z
every_at p (x ∷ xs) d zero h l = and_left (p x) (every p xs) h
every_at p (x ∷ xs) d (suc i) h l = every_at p xs d i (and_right (p x) (every p xs) h) (omega arith)

pub at_every : {A : Type 0} (p : A → Bool) (l : List A) (d : A) → ((i : ℕ) → i < length l → p (get_or l i d) ≡ true) → every p l ≡ true
unfolding every
at_every p [] d f = refl
at_every p (x ∷ xs) d f = rw (f 0 (omega arith)) (at_every p xs d (λ i l. f (suc i) (omega arith)))

-- an element that passes the test that is looked for
pub any_at : {A : Type 0} (p : A → Bool) (l : List A) (d : A) (i : ℕ) → i < length l → p (get_or l i d) ≡ true → any p l ≡ true
unfolding any
any_at p [] d i l h = let z : ⊥ = omega arith in absurd z
any_at p (x ∷ xs) d zero l h = rw h
any_at p (x ∷ xs) d (suc i) l h = rw (any_at p xs d i (omega arith) h) (or-true (p x))

-- a test of what a function makes of each element
pub every_map : {A B : Type 0} (p : B → Bool) (f : A → B) (l : List A) → every p (map f l) ≡ every (λ x. p (f x)) l
unfolding every
every_map p f [] = refl
every_map p f (x ∷ xs) = ap (λ b. p (f x) && b) (every_map p f xs)

-- two lists that are equal number by number
pub pairwise_eq : (xs ys : List ℕ) → pairwise eqb xs ys ≡ true → xs ≡ ys
unfolding pairwise
pairwise_eq [] [] h = refl
pairwise_eq [] (y ∷ ys) h = cc
pairwise_eq (x ∷ xs) [] h = cc
pairwise_eq (x ∷ xs) (y ∷ ys) h =
    let e : x ≡ y = eqb-true x y (and_left (eqb x y) (pairwise eqb xs ys) h) in
    let r : xs ≡ ys = pairwise_eq xs ys (and_right (eqb x y) (pairwise eqb xs ys) h) in
    cc

pub pairwise_refl : (xs : List ℕ) → pairwise eqb xs xs ≡ true
unfolding pairwise
pairwise_refl [] = refl
pairwise_refl (x ∷ xs) = rw (eq-eqb x x refl) (pairwise_refl xs)

-- test n of a list fails
pub all_fails : (n : ℕ) (bs : List Bool) → get_or bs n true ≡ false → all bs ≡ false
unfolding all
all_fails n [] e = e
all_fails zero (b ∷ bs) e = rw e
all_fails (suc n) (b ∷ bs) e = rw (all_fails n bs e) (and-false b)
