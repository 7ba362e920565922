-- Document 02, S-10: "a converter from an old file to one copy of ours and back, which returns the bytes written", for any bytes.
use Rattle.std.specs.Prelude.{Bool, not, List, [], ◌∷◌, ◌++◌, ℕ, zero, suc, ◌-◌, Result, Ok, Err, length, take, drop, ltb, eqb}
use Rattle.carts.specs.Bytes.{zeros, byte, all, any, parts}
use Rattle.carts.specs.Cart.{cart_size, cart_count, copy_size, copy_form}
use Rattle.carts.specs.Rows.{Row, row, stopped, unless}
use Rattle.carts.specs.Refusal.{refusal_number}
use Rattle.carts.specs.declared.refusal.Refusal.{Refusal}
use Rattle.old_edition.specs.OldFile.{mark, old_cart_size, old_title_size, file_size, old_carts, file_form}

-- a refusal's number; "returns the bytes written"
pub data Answer : Type 0 where
  refused : ℕ → Answer
  written : ℕ → Answer

-- the code's cases
abbrev pub convert_answer : Result ℕ Refusal → Answer
convert_answer (Ok n) = written n
convert_answer (Err r) = refused (refusal_number r)

-- "Each cart keeps its place, audio, length and title": an old cart's bytes stand in ours where they stood, then zeros
unfoldable pub widened : List ℕ → List ℕ
widened old = old ++ zeros (cart_size - old_cart_size)

-- and back: the first 48 bytes of ours
unfoldable pub narrowed : List ℕ → List ℕ
narrowed cart = take old_cart_size cart

-- what a function makes of each of n carts of `size` bytes, one after the other
unfoldable pub each_cart : (List ℕ → List ℕ) → ℕ → ℕ → List ℕ → List ℕ
each_cart f size zero s = []
each_cart f size (suc n) s = f (take size s) ++ each_cart f size n (drop size s)

-- "from an old file to one copy of ours", "and back"
unfoldable pub copy_of : List ℕ → List ℕ
copy_of file = each_cart widened old_cart_size cart_count (old_carts file)

unfoldable pub file_of : List ℕ → List ℕ
file_of copy = mark ++ each_cart narrowed cart_size cart_count copy

-- "a title over 32 bytes": of an empty cart the length is 0
unfoldable pub long_title : List ℕ → Bool
long_title cart = ltb old_title_size (byte cart 1)

-- "Refusals 22, input not of its length or form or output not of its length": the output's length is `room`
unfoldable pub from_old_rows : List ℕ → ℕ → List Row
from_old_rows file room = row 22 (not (all (file_form file ∷ eqb room copy_size ∷ []))) ∷ []

-- "then 23, a title over 32 bytes"; "Ours to old refuses a longer title"
unfoldable pub to_old_rows : List ℕ → ℕ → List Row
to_old_rows copy room =
    row 22 (not (all (eqb (length copy) copy_size ∷ copy_form copy ∷ eqb room file_size ∷ [])))
    ∷ row 23 (any long_title (parts cart_size cart_count copy)) ∷ []

-- what a conversion answers, and the output that it leaves
pub record After : Type 0 where
  pub answer : Answer
  pub output : List ℕ

abbrev pub after : Answer → List ℕ → After
after a out = record { answer = a; output = out }

-- 00: "A refused call returns its number .. and changes no lent byte"
unfoldable pub refusal : List ℕ → ℕ → After
refusal out n = after (refused n) out

-- old to ours: the file, and the output as it was lent
unfoldable pub from_old : List ℕ → List ℕ → After
from_old file out = unless (stopped (from_old_rows file (length out))) (refusal out) (after (written copy_size) (copy_of file))

-- ours to old: the copy, and the output as it was lent
unfoldable pub to_old : List ℕ → List ℕ → After
to_old copy out = unless (stopped (to_old_rows copy (length out))) (refusal out) (after (written file_size) (file_of copy))
