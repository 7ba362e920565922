-- Laws of the letters that a search compares: of two titles, of a cart, and of the carts of a copy.
use Prim.Native.Nat.{ℕ, zero, suc, ◌+◌, ◌-◌, ◌*◌, ◌<◌, ◌≤◌}
use mathlib.Core.Path.{◌≡◌, refl, sym, ◌∙◌}
use mathlib.Core.Bool.{true, false, ◌&&◌, and_assoc, false≢true}
use mathlib.Core.List.{List, [], ◌∷◌}
use native.Mathlib.Nat.{zero-add, suc-add}
use native.Mathlib.Omega.{arith}
use lib.Dec.{eqb}
use lib.ListN.{length, get_or, take, drop}
use lib.Seq.{drop-cons, take_all}
use Rattle.carts.specs.Bytes.{part, byte, pairwise}
use Rattle.carts.specs.Cart.{held}
use Rattle.carts.specs.Title.{same_letter, titled, letters_compared, letters_of, letters_from, letters_in}
use Rattle.carts.proofs.RecordLaws.{left_suc, drop_next}
use Rattle.carts.proofs.TestLaws.{and_left, and_right, by_cond}

-- the first i letters of two titles are the same
abbrev pub SameTo : ℕ → List ℕ → List ℕ → Type 0
SameTo i a b = pairwise same_letter (take i a) (take i b) ≡ true

-- n letters more, or one
pub same_more : (i n : ℕ) (a b : List ℕ) → SameTo i a b → SameTo n (drop i a) (drop i b) → SameTo (i + n) a b
unfolding pairwise
same_more zero n a b p q = rw zero-add q
same_more (suc i) n [] [] p q = rw suc-add refl
same_more (suc i) n [] (y ∷ b) p q = absurd (false≢true p)
same_more (suc i) n (x ∷ a) [] p q = absurd (false≢true p)
same_more (suc i) n (x ∷ a) (y ∷ b) p q = rw (suc-add, and_left (same_letter x y) _ p) (same_more i n a b (and_right (same_letter x y) _ p) q)

pub same_next : (i : ℕ) (a b : List ℕ) → i < length a → i < length b → SameTo i a b → same_letter (get_or a i 0) (get_or b i 0) ≡ true → SameTo (i + 1) a b
unfolding pairwise
same_next i a b h k p e = same_more i 1 a b p (rw (drop-cons a i 0, drop-cons b i 0, e))

-- the first that differs, with what stands before it the same
pub letter_differs : (i : ℕ) (a b : List ℕ) → i < length a → i < length b → SameTo i a b → same_letter (get_or a i 0) (get_or b i 0) ≡ false
    → (false ≡ pairwise same_letter a b) × (i + 1 ≡ letters_compared a b)
unfolding pairwise letters_compared
letter_differs i [] b h k p e = absurd (omega arith)
letter_differs i (x ∷ a) [] h k p e = absurd (omega arith)
letter_differs zero (x ∷ a) (y ∷ b) h k p e = rw e (refl, refl)
letter_differs (suc i) (x ∷ a) (y ∷ b) h k p e =
    let r = letter_differs i a b (omega arith) (omega arith) (and_right (same_letter x y) _ p) e in
    rw (and_left (same_letter x y) _ p) (r.0, omega (arith, r.1))

-- no letter differs
letters_all : (a b : List ℕ) → pairwise same_letter a b ≡ true → length a ≡ letters_compared a b
unfolding pairwise letters_compared
letters_all [] b p = refl
letters_all (x ∷ a) [] p = absurd (false≢true p)
letters_all (x ∷ a) (y ∷ b) p = let r = letters_all a b (and_right (same_letter x y) _ p) in rw (and_left (same_letter x y) _ p) (omega (arith, r))

pub letters_whole : (i : ℕ) (a b : List ℕ) → length a ≡ length b → length a ≡ i → SameTo i a b → (true ≡ pairwise same_letter a b) × (i ≡ letters_compared a b)
letters_whole i a b l h p =
    let q : pairwise same_letter a b ≡ true = rw (take_all i a (omega arith), take_all i b (omega arith)) at p in
    (sym q, sym h ∙ letters_all a b q)

-- no more letters than the title has
letters_few : (a b : List ℕ) → letters_compared a b ≤ length b
unfolding letters_compared
letters_few [] b = omega arith
letters_few (x ∷ a) [] = omega arith
letters_few (x ∷ a) (y ∷ b) = let k = letters_few a b in by_cond (λ n. 1 + n ≤ length (y ∷ b)) (same_letter x y) (letters_compared a b) 0 (λ e. omega (arith, k)) (λ e. omega arith)

-- a cart whose letters are compared, held and of the length asked, and any other
module _ (title cart : List ℕ) where
  pub cart_compared : (held cart && eqb (byte cart 1) (length title)) ≡ true
      → (pairwise same_letter (part cart 16 (length title)) title ≡ titled title cart) × (letters_compared (part cart 16 (length title)) title ≡ letters_of title cart)
  unfolding titled letters_of
  cart_compared e = rw (← and_assoc, e) (refl, refl)

  pub cart_other : (held cart && eqb (byte cart 1) (length title)) ≡ false → (false ≡ titled title cart) × (0 ≡ letters_of title cart)
  unfolding titled letters_of
  cart_other e = rw (← and_assoc, e) (refl, refl)

cart_letters_few : (title cart : List ℕ) → letters_of title cart ≤ length title
unfolding letters_of
cart_letters_few title cart = by_cond (λ k. k ≤ length title) (held cart && eqb (byte cart 1) (length title)) _ 0 (λ h. letters_few _ title) (λ h. omega arith)

-- n carts: at most n times the title's length, so 8,192 in a copy
letters_most : (title : List ℕ) (n : ℕ) (s : List ℕ) → letters_from title n s ≤ n * length title
unfolding letters_from
letters_most title zero s = omega arith
letters_most title (suc n) s = let k = cart_letters_few title (take 80 s) in let r = letters_most title n (drop 80 s) in omega arith

pub copy_letters_most : (title copy : List ℕ) → length title ≤ 64 → letters_in title copy ≤ 8192
unfolding letters_in
copy_letters_most title copy h = let k = letters_most title 128 copy in omega arith

-- a turn of the sum over carts, i of n having been passed, and its end
module _ (title : List ℕ) (n i : ℕ) (s : List ℕ) (sum : ℕ) {whole : ℕ} (inv : whole ≡ sum + letters_from title (n - i) (drop (80 * i) s)) where
  pub letters_more : (more : ℕ) → i < n → more ≡ letters_of title (take 80 (drop (80 * i) s)) → whole ≡ sum + more + letters_from title (n - (i + 1)) (drop (80 * (i + 1)) s)
  unfolding letters_from
  letters_more more h e =
      let next : letters_from title (n - i) (drop (80 * i) s) ≡ letters_of title (take 80 (drop (80 * i) s)) + letters_from title (n - (i + 1)) (drop (80 * (i + 1)) s) = rw (left_suc n i h, ← drop_next 80 i s) in
      omega arith

  pub letters_done : n ≤ i → sum ≡ whole
  unfolding letters_from
  letters_done h = let z : n - i ≡ 0 = omega arith in let e = rw z at inv in omega arith
