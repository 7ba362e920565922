-- WORKED EXAMPLES of the first cart at fault, of held carts and of sentences, by computation.
use mathlib.Core.Path.{◌≡◌, refl}
use mathlib.Core.Bool.{Bool}
use mathlib.Core.List.{List, [], ◌∷◌, ◌++◌}
use Prim.Native.Nat.{ℕ}
use lib.Dec.{eqb}
use Rattle.std.specs.Prelude.{Some, None}
use Rattle.carts.specs.Bytes.{zeros, byte}
use Rattle.carts.specs.Cart.{held}
use Rattle.lines.specs.Words.{bytes_of}
use Rattle.words.specs.Page.{digits_of, decimal, count_of, quoted}
use Rattle.convert.specs.Fault.{first_fault}
use Rattle.convert.specs.Held.{held_in}
use Rattle.convert.specs.Sentences.{made_text, copy_made_text, file_made_text, length_text, wrong_length_text, other_length_text, no_wall_text, form_text, long_title_text}

-- a part of one byte that is its number
own : ℕ → List ℕ → Bool
own i s = eqb (byte s 0) i

pub record Faults : Type 0 where
  first : first_fault own 1 3 1 (2 ∷ 1 ∷ 3 ∷ []) ≡ Some 1
  second : first_fault own 1 3 1 (1 ∷ 1 ∷ 1 ∷ []) ≡ Some 2
  last : first_fault own 1 3 1 (1 ∷ 2 ∷ 4 ∷ []) ≡ Some 3
  none : first_fault own 1 3 1 (1 ∷ 2 ∷ 3 ∷ []) ≡ None
  two_held : held_in 2 3 (1 ∷ 0 ∷ 2 ∷ 1 ∷ 1 ∷ 1 ∷ []) ≡ 2

pub faults : Faults
unfolding own first_fault held_in held
faults = record {
  first = refl;
  second = refl;
  last = refl;
  none = refl;
  two_held = refl;
}

pub record Sentences : Type 0 where
  copy_made : copy_made_text 97 ≡ bytes_of "an old file with 97 carts, converted to a copy of 10240 bytes\n"
  file_made : file_made_text 1 ≡ bytes_of "a copy with 1 cart, converted to an old file of 6150 bytes\n"
  other_length : other_length_text 6149 ≡ bytes_of "refused (22): it begins with CART32, as an old file does, but its length is 6149 and not 6150\n"
  no_wall : no_wall_text 12 ≡ bytes_of "refused (22): it is no wall: it does not begin with CART32, as an old file does, and its length is 12 and not 10240, as a copy's is\n"
  cut : length_text 65536 ≡ bytes_of "65536 or more"
  out_of_form : form_text 17 (bytes_of " of the copy") 64 ≡ bytes_of "refused (22): cart 17 of the copy is out of form: a held cart has its place as its number, a title of 1 to 64 letters and then zeros, audio and length of at least 1, and zeros in bytes 12 to 15; an empty one is all zero\n"
  long_title_law : long_title_text (zeros 16 ++ bytes_of "Weather and traffic, top hour B!!" ++ zeros 31) 40 33 ≡ bytes_of "refused (23): the title of cart 40 has 33 letters, and an old file has room for 32: \"Weather and traffic, top hour B!!\"\n"

pub sentences : Sentences
unfolding digits_of decimal count_of quoted zeros made_text length_text wrong_length_text form_text long_title_text
sentences = record {
  copy_made = refl;
  file_made = refl;
  other_length = refl;
  no_wall = refl;
  cut = refl;
  out_of_form = refl;
  long_title_law = refl;
}
