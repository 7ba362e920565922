-- The bytes of operations, requests and studios.
use Rattle.std.specs.Prelude.{List, [], ◌∷◌, ◌++◌, ℕ, ◌+◌, ◌-◌, ◌*◌, ◌/◌, ◌%◌, length, take}
use Rattle.carts.specs.Cart.{title_size, number_at, title_at}
use Rattle.carts.specs.Bytes.{zeros, u16, u16_bytes}

-- what a line may hold: 8 operations, 32 numbers, the studios of 16 sessions
abbrev pub payload_size : ℕ
payload_size = 640

abbrev pub most_numbers : ℕ
most_numbers = 32

abbrev pub most_studios : ℕ
most_studios = 16

-- the four bytes of a u32, little-endian
unfoldable pub u32_bytes : ℕ → List ℕ
u32_bytes n = n % 256 ∷ n / 256 % 256 ∷ n / 65536 % 256 ∷ n / 16777216 ∷ []

-- a title in its field of 64 bytes: as many of its letters as there is room for, then zeros
unfoldable pub title_field : List ℕ → List ℕ
title_field title = take title_size title ++ zeros (title_size - length title)

-- an operation, or a request by title (kind 2, the numbers zero): the length byte tells the title's true length
unfoldable pub operation_bytes : ℕ → ℕ → ℕ → ℕ → List ℕ → List ℕ
operation_bytes kind cart audio milliseconds title =
    kind ∷ length title ∷ (u16_bytes cart ++ (u32_bytes audio ++ (u32_bytes milliseconds ++ (zeros 4 ++ title_field title))))

-- u16 numbers, one after the other
unfoldable pub u16_list : List ℕ → List ℕ
u16_list [] = []
u16_list (n ∷ ns) = u16_bytes (n % 65536) ++ u16_list ns

-- a request by at most 32 numbers
unfoldable pub numbers_bytes : List ℕ → List ℕ
numbers_bytes ns = 1 ∷ length ns ∷ (zeros (title_at - number_at) ++ (u16_list ns ++ zeros (title_size - 2 * length ns)))

-- the number asked at place i of a request, counted from 0
abbrev pub asked_at : List ℕ → ℕ → ℕ
asked_at request i = u16 request (title_at + 2 * i)

-- at most 16 studio bytes, the sessions left over unused
unfoldable pub low_bytes : List ℕ → List ℕ
low_bytes [] = []
low_bytes (n ∷ ns) = n % 256 ∷ low_bytes ns

unfoldable pub studio_bytes : List ℕ → List ℕ
studio_bytes ns = low_bytes ns ++ zeros (most_studios - length ns)
