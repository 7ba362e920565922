-- S-5, a title search for C: "answers a struct of three u32". Words that have no meaning are 0. The quotes are the issue's.
use Rattle.std.specs.Prelude.{cond, ◌&&◌, List, ℕ, length, eqb}
use Rattle.carts.specs.Bytes.{within}
use Rattle.carts.specs.Cart.{copy_size, title_size}
use Rattle.carts.specs.Title.{titled_in, search_answer, letters_in}
use Rattle.carts.specs.declared.titles.Found.{Found}
use Rattle.carts.specs.declared.titles.Found.TheVariants.{One, None, Several}
use Rattle.carts_c.specs.declared.search.Words.{Words}

-- "kind .. value; letters"
abbrev pub words : ℕ → ℕ → ℕ → Words
words kind value letters = record { kind = kind; value = value; letters = letters }

-- "kind 0 none, 1 one (value: the cart's number), 2 several (value: the count)"
abbrev pub found_words : Found → ℕ → Words
found_words None letters = words 0 0 letters
found_words (One c) letters = words 1 c letters
found_words (Several n) letters = words 2 n letters

-- "3 a wrong length (copy not 10,240, or title not 1 to 64; value and letters 0)"
unfoldable pub search_words : List ℕ → List ℕ → Words
search_words copy title =
    cond (eqb (length copy) copy_size && within 1 title_size (length title))
    (found_words (search_answer (titled_in title copy)) (letters_in title copy))
    (words 3 0 0)
