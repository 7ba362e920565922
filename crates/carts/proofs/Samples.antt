-- Sample operations and titles for worked examples and tables. No part of the specification.
use mathlib.Core.List.{List, [], ◌∷◌, ◌++◌}
use Prim.Native.Nat.{ℕ, ◌-◌, ◌/◌, ◌%◌}
use lib.ListN.{length, replicate}
use Rattle.carts.specs.Bytes.{zeros, u16_bytes}
use Rattle.carts.specs.Cart.{title_size}

-- the four bytes of a u32
unfoldable pub u32_bytes : ℕ → List ℕ
u32_bytes n = u16_bytes (n % 65536) ++ u16_bytes (n / 65536)

-- an operation of a kind on cart c (below 256), with a title, audio and milliseconds; a new one is also the cart that it makes
unfoldable pub operation : ℕ → ℕ → List ℕ → ℕ → ℕ → List ℕ
operation kind c title audio ms =
    kind ∷ length title ∷ c ∷ 0 ∷ u32_bytes audio ++ u32_bytes ms ++ zeros 4 ++ title ++ zeros (title_size - length title)

unfoldable pub new_cart : ℕ → List ℕ → ℕ → ℕ → List ℕ
new_cart c title audio ms = operation 1 c title audio ms

unfoldable pub retitle_cart : ℕ → List ℕ → List ℕ
retitle_cart c title = operation 2 c title 0 0

unfoldable pub recut_cart : ℕ → ℕ → ℕ → List ℕ
recut_cart c audio ms = operation 3 c [] audio ms

unfoldable pub withdraw_cart : ℕ → List ℕ
withdraw_cart c = operation 4 c [] 0 0

-- "Top hour A"
unfoldable pub top_hour_a : List ℕ
top_hour_a = 84 ∷ 111 ∷ 112 ∷ 32 ∷ 104 ∷ 111 ∷ 117 ∷ 114 ∷ 32 ∷ 65 ∷ []

-- "News"
unfoldable pub news : List ℕ
news = 78 ∷ 101 ∷ 119 ∷ 115 ∷ []

-- 63 letters a, then the given one
unfoldable pub long_title : ℕ → List ℕ
long_title last = replicate 63 97 ++ (last ∷ [])
