-- The words that stand for a search's answer.
use Prim.Native.Nat.{ℕ}
use mathlib.Core.Path.{◌≡◌, ap₂, ◌∙◌}
use mathlib.Core.Bool.{true, false, ◌&&◌}
use mathlib.Core.List.{List}
use lib.Dec.{eqb}
use lib.ListN.{length}
use Rattle.carts.specs.Bytes.{within}
use Rattle.carts.specs.Title.{titled_in, search_answer, letters_in}
use Rattle.carts.specs.declared.titles.Found.{Found}
use Rattle.carts.specs.declared.titles.Searched.{Searched}
use Rattle.carts_c.specs.Search.{words, found_words, search_words}
use Rattle.carts_c.specs.declared.search.Words.{Words}

-- a search of lengths that fit, and of others
module _ (copy title : List ℕ) where
  pub wrong_length : (w : Words) → (eqb (length copy) 10240 && within 1 64 (length title)) ≡ false → w ≡ words 3 0 0 → w ≡ search_words copy title
  unfolding search_words
  wrong_length w e f = rw e f

  pub searched : (w : Words) (s : Searched) → (eqb (length copy) 10240 && within 1 64 (length title)) ≡ true → w ≡ found_words s.found s.letters
      → (s.found ≡ search_answer (titled_in title copy)) × (s.letters ≡ letters_in title copy) → w ≡ search_words copy title
  unfolding search_words
  searched w s e f k = rw e (f ∙ ap₂ (λ (x : Found) (n : ℕ). found_words x n) k.0 k.1)
