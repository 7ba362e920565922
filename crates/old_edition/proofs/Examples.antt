-- Worked examples, computed: an old wall of two carts, and what stops a conversion.
use mathlib.Core.Path.{◌≡◌, refl}
use mathlib.Core.List.{List, [], ◌∷◌, ◌++◌}
use Prim.Native.Nat.{ℕ}
use lib.ListN.{take, replicate}
use Rattle.carts.specs.Bytes.{zeros, u16, u32, u16_bytes, within, all, every, any, all_zero, pairwise, parts, each_part}
use Rattle.carts.specs.Cart.{printable, title_form, has_title, has_audio, held, held_form, cart_form, copy_form}
use Rattle.carts.specs.Rows.{stopped, unless}
use Rattle.carts.proofs.Samples.{u32_bytes, operation, new_cart, news}
use Rattle.old_edition.specs.OldFile.{mark, has_old_title, old_held_form, old_cart_form, file_form}
use Rattle.old_edition.specs.Convert.{Answer, refused, widened, narrowed, each_cart, copy_of, file_of, long_title, from_old_rows, to_old_rows, refusal, from_old, to_old}

-- cart 1, "News"; cart 2, a title of so many letters, the first and the last of them a space
unfoldable pub first : List ℕ
first = new_cart 1 news 501 8000

unfoldable pub second : ℕ → List ℕ
second n = new_cart 2 (32 ∷ replicate n 97 ++ (32 ∷ [])) 70000 1

-- a wall of the two, the last 126 carts empty but for the first bytes of cart 128; and as an old file
unfoldable pub wall : ℕ → List ℕ → List ℕ
wall n last = first ++ second n ++ zeros 10000 ++ last

unfoldable pub file : List ℕ → List ℕ → List ℕ
file begins cart = begins ++ cart ++ take 48 (second 30) ++ zeros 6048

-- 80 bytes of an empty cart; bytes 12–15 of a cart that are not zero
unfoldable pub empty : List ℕ
empty = zeros 80

unfoldable pub linked : List ℕ
linked = take 12 first ++ (1 ∷ 0 ∷ 0 ∷ 0 ∷ []) ++ take 32 (78 ∷ 101 ∷ 119 ∷ 115 ∷ zeros 28)

-- titles of 32 letters with spaces at both ends are taken both ways, letter for letter; one of 33 is refused by 23; all of 22 comes first
pub there : (from_old (file mark (take 48 first)) (zeros 10240)).output ≡ wall 30 empty
unfolding first second wall file empty zeros u16 u32 u16_bytes within all every any all_zero pairwise parts each_part printable title_form has_title has_audio held held_form cart_form copy_form stopped unless u32_bytes operation new_cart news has_old_title old_held_form old_cart_form file_form widened narrowed each_cart copy_of file_of long_title from_old_rows to_old_rows refusal from_old to_old
there = refl

pub back : (to_old (wall 30 empty) (zeros 6150)).output ≡ file mark (take 48 first)
unfolding first second wall file empty zeros u16 u32 u16_bytes within all every any all_zero pairwise parts each_part printable title_form has_title has_audio held held_form cart_form copy_form stopped unless u32_bytes operation new_cart news has_old_title old_held_form old_cart_form file_form widened narrowed each_cart copy_of file_of long_title from_old_rows to_old_rows refusal from_old to_old
back = refl

unfoldable pub answers : List Answer
answers =
    (from_old (file mark (take 48 first)) (zeros 10239)).answer
    ∷ (from_old (file (67 ∷ 65 ∷ 82 ∷ 84 ∷ 51 ∷ 51 ∷ []) (take 48 first)) (zeros 10240)).answer
    ∷ (from_old (file mark linked) (zeros 10240)).answer
    ∷ (to_old (wall 31 empty) (zeros 6150)).answer
    ∷ (to_old (wall 31 empty) (zeros 6151)).answer
    ∷ (to_old (wall 31 (2 ∷ zeros 79)) (zeros 6150)).answer ∷ []

pub told : answers ≡ refused 22 ∷ refused 22 ∷ refused 22 ∷ refused 23 ∷ refused 22 ∷ refused 22 ∷ []
unfolding answers first second wall file empty linked zeros u16 u32 u16_bytes within all every any all_zero pairwise parts each_part printable title_form has_title has_audio held held_form cart_form copy_form stopped unless u32_bytes operation new_cart news has_old_title old_held_form old_cart_form file_form widened narrowed each_cart copy_of file_of long_title from_old_rows to_old_rows refusal from_old to_old
told = refl
