-- Laws of titles and of a search's answer.
use Prim.Native.Nat.{ℕ, zero, suc, ◌+◌, ◌-◌, ◌*◌, ◌<◌, ◌≤◌}
use mathlib.Core.Path.{◌≡◌, refl, sym, ap, ◌∙◌}
use mathlib.Core.Bool.{Bool, true, false, cond}
use mathlib.Core.List.{List, [], ◌∷◌, ◌++◌, append-nil}
use mathlib.Core.Logic.{⊎_elim}
use types.Run.{OneOf}
use denote.Enum.Declared.{tag_of}
use native.Mathlib.Omega.{arith}
use lib.ListN.{length, take, drop, replicate, length-append, length-replicate}
use Rattle.carts.specs.Bytes.{zeros, within, every}
use Rattle.carts.specs.Cart.{cart_at}
use Rattle.carts.specs.Title.{shown_by_numbers, titled, titled_from, titled_in, the_one, search_answer, found_count}
use Rattle.carts.specs.declared.titles.Found.{Found}
use Rattle.carts.specs.declared.titles.Found.TheVariants.{One, None, Several}
use Rattle.carts.specs.contracts.titles.Found.{the_type}
use Rattle.carts.proofs.RecordLaws.{left_suc, drop_next}
use Rattle.carts.proofs.ScanLaws.{and_left, and_right, within_true, within_of}
use Rattle.carts.proofs.ZeroLaws.{length_zeros}
use Rattle.carts.proofs.CartLaws.{length_cart}

-- the carts left of n, of which i have been passed: the first, and the others; m is the first's number
titled_next : (title : List ℕ) (n i m : ℕ) (s : List ℕ) (b : Bool) → i < n → titled title (take 80 (drop (80 * i) s)) ≡ b
    → titled_from title (n - i) m (drop (80 * i) s) ≡ cond b (m ∷ titled_from title (n - (i + 1)) (m + 1) (drop (80 * (i + 1)) s)) (titled_from title (n - (i + 1)) (m + 1) (drop (80 * (i + 1)) s))
unfolding titled_from
titled_next title n i m s b h e = rw (left_suc n i h, ← drop_next 80 i s, ← e)

-- the answer for two or more goes by their count alone
several : (xs : List ℕ) → 2 ≤ length xs → search_answer xs ≡ Several (length xs)
unfolding search_answer
several [] h = absurd (omega arith)
several (c ∷ []) h = absurd (omega arith)
several (c ∷ d ∷ xs) h = refl

-- so of those found so far only the count and the last are kept
last_counts : (k c d : ℕ) (xs : List ℕ) → search_answer (replicate k c ++ (d ∷ xs)) ≡ search_answer (replicate (k + 1) d ++ xs)
last_counts zero c d xs = refl
last_counts (suc k) c d xs =
    let l : length (replicate (suc k) c ++ (d ∷ xs)) ≡ suc k + suc (length xs) = simp (length-append, length-replicate) in
    let r : length (replicate (suc k + 1) d ++ xs) ≡ suc k + 1 + length xs = simp (length-append, length-replicate) in
    several (replicate (suc k) c ++ (d ∷ xs)) (omega arith) ∙ ap Several (omega arith) ∙ sym (several (replicate (suc k + 1) d ++ xs) (omega arith))

-- a turn of the search
module _ (title : List ℕ) (n i m : ℕ) (s : List ℕ) (h : i < n) (k c : ℕ) {answer : Found}
    (inv : answer ≡ search_answer (replicate k c ++ titled_from title (n - i) m (drop (80 * i) s))) where
  pub search_hit : titled title (take 80 (drop (80 * i) s)) ≡ true → answer ≡ search_answer (replicate (k + 1) m ++ titled_from title (n - (i + 1)) (m + 1) (drop (80 * (i + 1)) s))
  search_hit e = inv ∙ ap (λ xs. search_answer (replicate k c ++ xs)) (titled_next title n i m s true h e) ∙ last_counts k c m (titled_from title (n - (i + 1)) (m + 1) (drop (80 * (i + 1)) s))

  pub search_miss : titled title (take 80 (drop (80 * i) s)) ≡ false → answer ≡ search_answer (replicate k c ++ titled_from title (n - (i + 1)) (m + 1) (drop (80 * (i + 1)) s))
  search_miss e = inv ∙ ap (λ xs. search_answer (replicate k c ++ xs)) (titled_next title n i m s false h e)

-- its end
pub search_end : (title : List ℕ) (n i m : ℕ) (s : List ℕ) (k c : ℕ) → n ≤ i → search_answer (replicate k c ++ titled_from title (n - i) m s) ≡ search_answer (replicate k c)
unfolding titled_from
search_end title n i m s k c h = let e : n - i ≡ 0 = omega arith in rw (e, append-nil)

pub answer_none : (k c : ℕ) → k ≡ 0 → search_answer (replicate k c) ≡ None
unfolding search_answer
answer_none k c e = rw e

pub answer_one : (k c : ℕ) → k ≡ 1 → search_answer (replicate k c) ≡ One c
unfolding search_answer
answer_one k c e = rw e

pub answer_several : (k c : ℕ) → (k ≡ 0 → ⊥) → (k ≡ 1 → ⊥) → search_answer (replicate k c) ≡ Several k
answer_several k c p q = let l : length (replicate k c) ≡ k = length-replicate k c in several (replicate k c) (omega arith) ∙ ap Several l

-- what the answer tells of the carts that have the title
one_of : (xs : List ℕ) (c : ℕ) → search_answer xs ≡ One c → xs ≡ c ∷ []
unfolding search_answer
one_of [] c e = let z : ◌≡◌ {A = ℕ} 0 1 = cc in absurd (omega arith)
one_of (x ∷ []) c e = cc
one_of (x ∷ y ∷ xs) c e = let z : ◌≡◌ {A = ℕ} 0 1 = cc in absurd (omega arith)

titled_range : (title : List ℕ) (low high n m : ℕ) (s : List ℕ) → low ≤ m → m + n ≤ high + 1 → every (within low high) (titled_from title n m s) ≡ true
unfolding titled_from every
titled_range title low high zero m s p q = refl
titled_range title low high (suc n) m s p q =
    let rest = titled_from title n (m + 1) (drop 80 s) in
    let ih = titled_range title low high n (m + 1) (drop 80 s) (omega arith) (omega arith) in
    pick (titled title (take 80 s)) rest (within_of low high m p (omega arith)) ih
  where
    pick : (b : Bool) (rest : List ℕ) → within low high m ≡ true → every (within low high) rest ≡ true → every (within low high) (cond b (m ∷ rest) rest) ≡ true
    pick true rest w r = rw (w, r)
    pick false rest w r = r

-- the one cart found is a cart of the copy, and the one that is shown
pub found_one : (title copy : List ℕ) (c : ℕ) → search_answer (titled_in title copy) ≡ One c → ((1 ≤ c) × (c ≤ 128)) × (the_one copy (titled_in title copy) ≡ cart_at copy c)
unfolding titled_in the_one every
found_one title copy c e =
    let one = one_of (titled_in title copy) c e in
    let range = rw one at (titled_range title 1 128 128 1 copy (omega arith) (omega arith)) in
    (within_true 1 128 c (and_left (within 1 128 c) true range), rw one)

-- any other answer shows zeros
pub found_other : (title copy : List ℕ) → ((c : ℕ) → search_answer (titled_in title copy) ≡ One c → ⊥) → the_one copy (titled_in title copy) ≡ zeros 80
unfolding the_one search_answer
found_other title copy f = pick (titled_in title copy) f
  where
    pick : (xs : List ℕ) → ((c : ℕ) → search_answer xs ≡ One c → ⊥) → the_one copy xs ≡ zeros 80
    pick [] g = refl
    pick (x ∷ []) g = absurd (g x refl)
    pick (x ∷ y ∷ xs) g = refl

-- how many are found
pub found_length : (xs : List ℕ) → found_count (search_answer xs) ≡ length xs
unfolding search_answer
found_length [] = refl
found_length (x ∷ []) = refl
found_length (x ∷ y ∷ xs) = refl

-- in the `else` of `let Found::One(c) = found`
pub not_one : (found : Found) → OneOf (1 ∷ 2 ∷ []) (tag_of the_type found) → (c : ℕ) → found ≡ One c → ⊥
not_one (One x) k c e = ⊎_elim (λ q. omega arith) (λ q. omega arith) k
not_one None k c e = let z : ◌≡◌ {A = ℕ} 0 1 = cc in omega arith
not_one (Several n) k c e = let z : ◌≡◌ {A = ℕ} 0 1 = cc in omega arith

-- how much a read shows
pub length_by_numbers : (copy cs : List ℕ) → length copy ≡ 10240 → every (within 1 128) cs ≡ true → length (shown_by_numbers copy cs) ≡ 80 * length cs
unfolding shown_by_numbers every
length_by_numbers copy [] l e = refl
length_by_numbers copy (c ∷ cs) l e =
    let r = within_true 1 128 c (and_left (within 1 128 c) (every (within 1 128) cs) e) in
    simp (length-append, length_cart copy c l r.1, length_by_numbers copy cs l (and_right (within 1 128 c) (every (within 1 128) cs) e)) (omega arith)

pub length_by_title : (copy title : List ℕ) → length copy ≡ 10240 → length (the_one copy (titled_in title copy)) ≡ 80
unfolding titled_in the_one every
length_by_title copy title l = pick (titled_in title copy) (titled_range title 1 128 128 1 copy (omega arith) (omega arith))
  where
    pick : (xs : List ℕ) → every (within 1 128) xs ≡ true → length (the_one copy xs) ≡ 80
    pick [] e = length_zeros 80
    pick (c ∷ []) e = length_cart copy c l (within_true 1 128 c (and_left (within 1 128 c) true e)).1
    pick (c ∷ d ∷ xs) e = length_zeros 80
