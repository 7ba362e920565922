-- Text: classes of bytes, runs, and numbers in base ten.
use Rattle.std.specs.Prelude.{Bool, cond, not, ◌&&◌, ◌||◌, List, [], ◌∷◌, ℕ, suc, ◌+◌, ◌*◌, ◌-◌, length, drop, leb, eqb, Result, Ok, Err}
use Rattle.carts.specs.Bytes.{part}
use Rattle.lines.specs.declared.text.Class.{Class}
use Rattle.lines.specs.declared.text.Class.TheVariants.{Space, Word, Digit, Other}
use Rattle.lines.specs.declared.text.NumberError.{NumberError}
use Rattle.lines.specs.declared.text.NumberError.TheVariants.{Missing, TooLarge}

-- space, tab and return; a to z and the hyphen; 0 to 9; every byte but one
abbrev pub in_class : Class → ℕ → Bool
in_class Space b = (eqb b 32 || eqb b 9) || eqb b 13
in_class Word b = (leb 97 b && leb b 122) || eqb b 45
in_class Digit b = leb 48 b && leb b 57
in_class (Other x) b = not (eqb b x)

-- how many bytes of a class a text begins with
unfoldable pub run_length : Class → List ℕ → ℕ
run_length class [] = 0
run_length class (x ∷ xs) = let more = suc (run_length class xs) in cond (in_class class x) more 0

-- where the run of bytes of a class from `at` on ends
abbrev pub run_end : List ℕ → ℕ → Class → ℕ
run_end s at class = at + run_length class (drop at s)

-- n bytes from `at` on, or none where they are not all there
abbrev pub part_in : List ℕ → ℕ → ℕ → List ℕ
part_in s at n = cond (leb (at + n) (length s)) (part s at n) []

-- the number that digits say in base ten, after v
unfoldable pub numeral : ℕ → List ℕ → ℕ
numeral v [] = v
numeral v (d ∷ ds) = numeral (10 * v + (d - 48)) ds

unfoldable pub number_of : ℕ → List ℕ → Result ℕ NumberError
number_of most [] = Err Missing
number_of most (d ∷ ds) = let n = numeral 0 (d ∷ ds) in cond (leb n most) (Ok n) (Err TooLarge)
