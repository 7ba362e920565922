-- A page, and text on it.
use Rattle.std.specs.Prelude.{cond, ◌||◌, List, [], ◌∷◌, ◌++◌, ℕ, zero, suc, ◌+◌, ◌/◌, ◌%◌, length, eqb, ltb}
use Prim.Native.String.{String}
use Rattle.carts.specs.Bytes.{byte}
use Rattle.carts.specs.Cart.{printable}
use Rattle.lines.specs.Words.{bytes_of}

-- how many bytes of text a page has room for
abbrev pub page_size : ℕ
page_size = 4096

-- a number of at most so many digits, in base ten, with no zeros before it: 0 is the byte 48
unfoldable pub digits_of : ℕ → ℕ → List ℕ
digits_of zero n = []
digits_of (suc k) n = let more = digits_of k (n / 10) ++ ((48 + n % 10) ∷ []) in cond (ltb n 10) ((48 + n) ∷ []) more

-- a number in base ten: a u64 has at most 20 digits
unfoldable pub decimal : ℕ → List ℕ
decimal n = digits_of 20 n

-- words, and a number after them
abbrev pub numbered : String → ℕ → List ℕ
numbered words n = bytes_of words ++ decimal n

-- a count of things, with an s where it is not 1
unfoldable pub count_of : ℕ → List ℕ → List ℕ
count_of n thing = decimal n ++ bytes_of " " ++ thing ++ cond (eqb n 1) [] (bytes_of "s")

-- a title's letters between quotes
unfoldable pub quoted : List ℕ → List ℕ
quoted letters = bytes_of "\"" ++ letters ++ bytes_of "\""

-- a byte as it is shown: a printable one and a tab as they are, any other by its number in base 16
unfoldable pub hex_digit : ℕ → ℕ
hex_digit n = cond (ltb n 10) (48 + n) (55 + n)

unfoldable pub shown_byte : ℕ → List ℕ
shown_byte b = cond (printable b || eqb b 9) (b ∷ []) (bytes_of "\\x" ++ (hex_digit (b / 16) ∷ []) ++ (hex_digit (b % 16) ∷ []))

-- the first n bytes of a line, and all of them, as they are shown
unfoldable pub shown_to : List ℕ → ℕ → List ℕ
shown_to s zero = []
shown_to s (suc n) = shown_to s n ++ shown_byte (byte s n)

unfoldable pub shown : List ℕ → List ℕ
shown s = shown_to s (length s)
