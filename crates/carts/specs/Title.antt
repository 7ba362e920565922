-- Document 01, an answered read: the carts of numbers and of a title, how many are found, and what is written. Document 02, S-5: the
-- letters that a title search compares.
use Rattle.std.specs.Prelude.{Bool, cond, ◌&&◌, List, [], ◌∷◌, ◌++◌, ℕ, zero, suc, ◌+◌, length, take, drop, eqb}
use Rattle.carts.specs.Bytes.{zeros, part, byte, pairwise}
use Rattle.carts.specs.Cart.{cart_size, cart_count, title_at, cart_at, held}
use Rattle.carts.specs.declared.titles.Found.{Found}
use Rattle.carts.specs.declared.titles.Found.TheVariants.{One, None, Several}

-- "By numbers: one cart of 80 bytes per number asked, zeros for an empty cart"
unfoldable pub shown_by_numbers : List ℕ → List ℕ → List ℕ
shown_by_numbers copy [] = []
shown_by_numbers copy (c ∷ cs) = cart_at copy c ++ shown_by_numbers copy cs

-- "found counts the places that are held"
unfoldable pub found_by_numbers : List ℕ → List ℕ → ℕ
found_by_numbers copy [] = 0
found_by_numbers copy (c ∷ cs) = cond (held (cart_at copy c)) 1 0 + found_by_numbers copy cs

-- two letters of titles count as equal
unfoldable pub same_letter : ℕ → ℕ → Bool
same_letter a b = eqb a b

-- "have exactly that title": the cart is held, the lengths are equal, then letter by letter
unfoldable pub titled : List ℕ → List ℕ → Bool
titled title cart =
    let letters = pairwise same_letter (part cart title_at (length title)) title in
    held cart && (eqb (byte cart 1) (length title) && letters)

-- the numbers of those of n carts, the first of them cart c, that have the title
unfoldable pub titled_from : List ℕ → ℕ → ℕ → List ℕ → List ℕ
titled_from title zero c s = []
titled_from title (suc n) c s =
    let rest = titled_from title n (c + 1) (drop cart_size s) in
    cond (titled title (take cart_size s)) (c ∷ rest) rest

unfoldable pub titled_in : List ℕ → List ℕ → List ℕ
titled_in title copy = titled_from title cart_count 1 copy

-- "the one cart if found is 1, else 80 zeros"
unfoldable pub the_one : List ℕ → List ℕ → List ℕ
the_one copy [] = zeros cart_size
the_one copy (c ∷ []) = cart_at copy c
the_one copy (c ∷ d ∷ cs) = zeros cart_size

-- "A title search answers one cart, none, or several with their count, the one cart by its number": the code's answer
unfoldable pub search_answer : List ℕ → Found
search_answer [] = None
search_answer (c ∷ []) = One c
search_answer (c ∷ d ∷ cs) = Several (length (c ∷ d ∷ cs))

-- how many carts a search has found
abbrev pub found_count : Found → ℕ
found_count (One c) = 1
found_count None = 0
found_count (Several n) = n

-- S-5: "those up to and including the first that differs (all if none does)", of two titles of one length
unfoldable pub letters_compared : List ℕ → List ℕ → ℕ
letters_compared [] ys = 0
letters_compared (x ∷ xs) [] = 0
letters_compared (x ∷ xs) (y ∷ ys) = let rest = letters_compared xs ys in 1 + cond (same_letter x y) rest 0

-- S-5: "for each held cart of the length asked" these, "for any other cart none"
unfoldable pub letters_of : List ℕ → List ℕ → ℕ
letters_of title cart =
    let letters = letters_compared (part cart title_at (length title)) title in
    cond (held cart && eqb (byte cart 1) (length title)) letters 0

-- their sum over n carts
unfoldable pub letters_from : List ℕ → ℕ → List ℕ → ℕ
letters_from title zero s = 0
letters_from title (suc n) s = let rest = letters_from title n (drop cart_size s) in letters_of title (take cart_size s) + rest

-- S-5: "how many letters it compared": over the carts of a copy
unfoldable pub letters_in : List ℕ → List ℕ → ℕ
letters_in title copy = letters_from title cart_count copy
