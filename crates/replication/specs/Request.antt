-- Document 01, "Session" and "A read request": the form of a read, what it finds in a copy and what it writes.
use Rattle.std.specs.Prelude.{Bool, true, false, cond, List, [], ◌∷◌, ℕ, ◌*◌, ◌-◌, length, drop, eqb}
use Rattle.carts.specs.Bytes.{part, byte, u16s, within, all, every, all_zero}
use Rattle.carts.specs.Cart.{cart_size, cart_count, title_size, number_at, title_at, title_form}
use Rattle.replication.specs.Memory.{Memory, session_size, numbers_most, session_at}
use Rattle.carts.specs.Title.{shown_by_numbers, found_by_numbers, titled_in, the_one}

-- "A session's waiting read is a case (nothing, numbers, title)"; a request is one of the last two
pub data Request : Type 0 where
  nothing : Request
  by_numbers : List ℕ → Request
  by_title : List ℕ → Request

-- "Bytes 16–79: u16 cart numbers": as many as byte 1 says
unfoldable pub numbers_in : List ℕ → List ℕ
numbers_in s = u16s (byte s 1) (drop title_at s)

-- "Byte 0: 0 nothing waiting, 1 by numbers, 2 by title. Byte 1: count of numbers, or title length. Bytes 16–79: .."
unfoldable pub request_of : List ℕ → Request
request_of s =
    cond (eqb (byte s 0) 1) (by_numbers (numbers_in s))
    (cond (eqb (byte s 0) 2) (by_title (part s title_at (byte s 1))) nothing)

-- the read that session s has waiting
abbrev pub waiting_in : Memory → ℕ → Request
waiting_in m s = request_of (session_at m.sessions s)

-- "count of numbers 1–32"; "u16 cart numbers 1–128 .., then zeros"
unfoldable pub numbers_form : List ℕ → Bool
numbers_form s = all (within 1 numbers_most (byte s 1) ∷ every (within 1 cart_count) (numbers_in s) ∷ all_zero (drop (2 * byte s 1) (part s title_at title_size)) ∷ [])

-- byte 0 of 1 or 2, and byte 1 and bytes 16–79 within their rule
unfoldable pub request_fields : List ℕ → Bool
request_fields s =
    cond (eqb (byte s 0) 1) (numbers_form s)
    (cond (eqb (byte s 0) 2) (title_form (byte s 1) (part s title_at title_size)) false)

-- "A read request is 80 bytes of this form with byte 0 of 1 or 2 and bytes 2–15 zero"
unfoldable pub request_form : List ℕ → Bool
request_form s = all (eqb (length s) session_size ∷ request_fields s ∷ all_zero (part s number_at (title_at - number_at)) ∷ [])

unfoldable pub is_waiting : Request → Bool
is_waiting nothing = false
is_waiting (by_numbers cs) = true
is_waiting (by_title t) = true

-- "80 × numbers asked (80 for a title)"
unfoldable pub needed : Request → ℕ
needed nothing = 0
needed (by_numbers cs) = cart_size * length cs
needed (by_title t) = cart_size

-- found, and what an answered read writes from output's start. "By title: found is how many carts have exactly that title; the one cart
-- if found is 1, else 80 zeros."
unfoldable pub found_in : List ℕ → Request → ℕ
found_in copy nothing = 0
found_in copy (by_numbers cs) = found_by_numbers copy cs
found_in copy (by_title t) = length (titled_in t copy)

unfoldable pub shown_from : List ℕ → Request → List ℕ
shown_from copy nothing = []
shown_from copy (by_numbers cs) = shown_by_numbers copy cs
shown_from copy (by_title t) = the_one copy (titled_in t copy)
