-- Document 01, "The memory a caller lends": carts and copies.
use Rattle.std.specs.Prelude.{Bool, ◌||◌, List, [], ◌∷◌, ℕ, ◌*◌, ◌-◌, take, drop, leb, eqb}
use Rattle.carts.specs.Bytes.{part, byte, u16, u32, within, all, every, all_zero, each_part}
use Rattle.carts.specs.declared.cart.Cart.{Cart}

-- "A copy has 128 carts of 80 bytes"; "title length 1–64"
abbrev pub cart_size : ℕ
cart_size = 80

abbrev pub cart_count : ℕ
cart_count = 128

abbrev pub copy_size : ℕ
copy_size = 10240

abbrev pub title_size : ℕ
title_size = 64

-- "bytes 2–3 its number; 4–7 audio number; 8–11 length in milliseconds; 12–15 zero", links in a record; "16–79 the title"
abbrev pub number_at : ℕ
number_at = 2

abbrev pub audio_at : ℕ
audio_at = 4

abbrev pub length_at : ℕ
length_at = 8

abbrev pub links_at : ℕ
links_at = 12

abbrev pub title_at : ℕ
title_at = 16

-- the number of a cart, or of the cart that an operation names
abbrev pub cart_number : List ℕ → ℕ
cart_number s = u16 s number_at

-- "cart c begins at byte 80(c − 1) of its copy"
unfoldable pub cart_at : List ℕ → ℕ → List ℕ
cart_at copy c = part copy (cart_size * (c - 1)) cart_size

-- "the title, bytes 32 to 126"
unfoldable pub printable : ℕ → Bool
printable b = within 32 126 b

-- a title of n bytes in a field of that size: "bytes 32 to 126, then zeros"
abbrev pub title_in : ℕ → ℕ → List ℕ → Bool
title_in size n t = all (within 1 size n ∷ every printable (take n t) ∷ all_zero (drop n t) ∷ [])

-- "title length 1–64"
unfoldable pub title_form : ℕ → List ℕ → Bool
title_form n t = all (within 1 title_size n ∷ every printable (take n t) ∷ all_zero (drop n t) ∷ [])

-- byte 1 and bytes 16–79: a title, or "title length and title zero"
unfoldable pub has_title : List ℕ → Bool
has_title s = title_form (byte s 1) (part s title_at title_size)

unfoldable pub no_title : List ℕ → Bool
no_title s = all (eqb (byte s 1) 0 ∷ all_zero (part s title_at title_size) ∷ [])

-- bytes 4–11: "audio number, at least 1; length in milliseconds, at least 1", or "audio and length zero"
unfoldable pub has_audio : List ℕ → Bool
has_audio s = all (leb 1 (u32 s audio_at) ∷ leb 1 (u32 s length_at) ∷ [])

unfoldable pub no_audio : List ℕ → Bool
no_audio s = all_zero (part s audio_at (links_at - audio_at))

-- "Held: byte 0 is 1"; a cart with another byte 0 is in the other state
unfoldable pub held : List ℕ → Bool
held cart = eqb (byte cart 0) 1

-- a cart's fields, as the code's value
unfoldable pub cart_fields : List ℕ → Cart
cart_fields s = record { held = held s; title_length = byte s 1; number = cart_number s; audio = u32 s audio_at; milliseconds = u32 s length_at }

-- "Held: byte 0 is 1; byte 1 title length; bytes 2–3 its number; 4–7 audio number; 8–11 length; 12–15 zero; 16–79 the title"
unfoldable pub held_form : ℕ → List ℕ → Bool
held_form c s = all (held s ∷ eqb (cart_number s) c ∷ has_title s ∷ has_audio s ∷ all_zero (part s links_at (title_at - links_at)) ∷ [])

-- "Empty: 80 zero bytes", or held with number c
unfoldable pub cart_form : ℕ → List ℕ → Bool
cart_form c s = let rest = held_form c s in all_zero s || rest

-- "A copy has 128 carts": each of them within its rule
unfoldable pub copy_form : List ℕ → Bool
copy_form copy = each_part cart_form cart_size cart_count 1 copy
