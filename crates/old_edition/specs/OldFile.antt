-- Document 02, S-10: "the bytes CART32, then 128 carts of 48 bytes, laid out as ours with 32 title bytes at 16–47 and a title length of 1 to 32".
use Rattle.std.specs.Prelude.{Bool, ◌||◌, List, [], ◌∷◌, ℕ, ◌-◌, length, take, drop, eqb}
use Rattle.carts.specs.Bytes.{part, byte, all, all_zero, pairwise, each_part}
use Rattle.carts.specs.Cart.{cart_count, links_at, title_at, cart_number, title_in, has_audio, held}

-- "the bytes CART32": C, A, R, T, 3, 2
abbrev pub mark : List ℕ
mark = 67 ∷ 65 ∷ 82 ∷ 84 ∷ 51 ∷ 50 ∷ []

abbrev pub mark_size : ℕ
mark_size = 6

-- "128 carts of 48 bytes", "32 title bytes"
abbrev pub old_cart_size : ℕ
old_cart_size = 48

abbrev pub old_title_size : ℕ
old_title_size = 32

-- 6 + 128 x 48
abbrev pub file_size : ℕ
file_size = 6150

-- "32 title bytes at 16–47 and a title length of 1 to 32"
unfoldable pub has_old_title : List ℕ → Bool
has_old_title s = title_in old_title_size (byte s 1) (part s title_at old_title_size)

-- "laid out as ours": 01's held cart, in its order
unfoldable pub old_held_form : ℕ → List ℕ → Bool
old_held_form c s = all (held s ∷ eqb (cart_number s) c ∷ has_old_title s ∷ has_audio s ∷ all_zero (part s links_at (title_at - links_at)) ∷ [])

-- 01's "Empty: 80 zero bytes", here 48, or held with number c
unfoldable pub old_cart_form : ℕ → List ℕ → Bool
old_cart_form c s = let rest = old_held_form c s in all_zero s || rest

-- the carts of a file, after its mark
abbrev pub old_carts : List ℕ → List ℕ
old_carts file = drop mark_size file

-- a whole file: its length, its mark, and each of its carts
unfoldable pub file_form : List ℕ → Bool
file_form file =
    all (eqb (length file) file_size
    ∷ pairwise eqb (take mark_size file) mark
    ∷ each_part old_cart_form old_cart_size cart_count 1 (old_carts file) ∷ [])
