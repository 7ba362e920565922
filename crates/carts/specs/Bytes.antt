-- Bytes: parts of a list, little-endian numbers, and tests that walk a list once from its front.
use Rattle.std.specs.Prelude.{Bool, true, false, ◌&&◌, ◌||◌, List, [], ◌∷◌, ◌++◌, ℕ, zero, suc, ◌+◌, ◌*◌, ◌/◌, ◌%◌, take, drop, get_or, replicate, leb, eqb}

-- n zero bytes
unfoldable pub zeros : ℕ → List ℕ
zeros n = replicate n 0

-- the n bytes from byte `at` on
abbrev pub part : List ℕ → ℕ → ℕ → List ℕ
part s at n = take n (drop at s)

-- s with ys in the place of its n bytes from byte `at` on
abbrev pub over : List ℕ → ℕ → ℕ → List ℕ → List ℕ
over s at n ys = take at s ++ (ys ++ drop n (drop at s))

-- the byte at an index, counted from 0
abbrev pub byte : List ℕ → ℕ → ℕ
byte s at = get_or s at 0

-- "u16 and u32 are little-endian"
unfoldable pub u16 : List ℕ → ℕ → ℕ
u16 s at = byte s at + 256 * byte s (at + 1)

unfoldable pub u32 : List ℕ → ℕ → ℕ
u32 s at = byte s at + 256 * byte s (at + 1) + 65536 * byte s (at + 2) + 16777216 * byte s (at + 3)

-- the two bytes of a u16
unfoldable pub u16_bytes : ℕ → List ℕ
u16_bytes n = n % 256 ∷ n / 256 ∷ []

-- n u16 numbers, one after the other
unfoldable pub u16s : ℕ → List ℕ → List ℕ
u16s zero s = []
u16s (suc n) s = u16 s 0 ∷ u16s n (drop 2 s)

-- low ≤ n ≤ high
unfoldable pub within : ℕ → ℕ → ℕ → Bool
within low high n = leb low n && leb n high

-- every test of a list holds
unfoldable pub all : List Bool → Bool
all [] = true
all (b ∷ bs) = let rest = all bs in b && rest

-- every element passes the test
unfoldable pub every : {A : Type 0} → (A → Bool) → List A → Bool
every p [] = true
every p (x ∷ xs) = let rest = every p xs in p x && rest

-- some element passes the test
unfoldable pub any : {A : Type 0} → (A → Bool) → List A → Bool
any p [] = false
any p (x ∷ xs) = let rest = any p xs in p x || rest

unfoldable pub all_zero : List ℕ → Bool
all_zero s = every (λ b. eqb b 0) s

-- the two lists have one length, and r holds of each pair
unfoldable pub pairwise : (ℕ → ℕ → Bool) → List ℕ → List ℕ → Bool
pairwise r [] [] = true
pairwise r [] (y ∷ ys) = false
pairwise r (x ∷ xs) [] = false
pairwise r (x ∷ xs) (y ∷ ys) = let rest = pairwise r xs ys in r x y && rest

-- n parts of `size` bytes, one after the other
unfoldable pub parts : ℕ → ℕ → List ℕ → List (List ℕ)
parts size zero s = []
parts size (suc n) s = take size s ∷ parts size n (drop size s)

-- n parts of `size` bytes, the first with number i, each pass the test of a number and its part
unfoldable pub each_part : (ℕ → List ℕ → Bool) → ℕ → ℕ → ℕ → List ℕ → Bool
each_part test size zero i s = true
each_part test size (suc n) i s = let rest = each_part test size n (i + 1) (drop size s) in test i (take size s) && rest
