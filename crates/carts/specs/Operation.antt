-- Document 01, "Operation", and what an operation does to a copy ("The plain machine"). Document 02, S-2: titles that differ by a space.
use Rattle.std.specs.Prelude.{Bool, true, cond, ◌&&◌, ◌||◌, not, List, [], ◌∷◌, ℕ, ◌+◌, ◌*◌, ◌-◌, ◌/◌, length, set, eqb}
use Rattle.carts.specs.Bytes.{zeros, part, over, byte, within, all, all_zero, parts}
use Rattle.carts.specs.Cart.{cart_size, cart_count, title_size, audio_at, links_at, title_at, cart_number, cart_at, held, has_title, no_title, has_audio, no_audio}

-- "Byte 0: 1 new, 2 retitle, 3 re-cut, 4 withdraw"
abbrev pub is_new : ℕ → Bool
is_new kind = eqb kind 1

abbrev pub is_retitle : ℕ → Bool
is_retitle kind = eqb kind 2

abbrev pub is_recut : ℕ → Bool
is_recut kind = eqb kind 3

abbrev pub is_withdraw : ℕ → Bool
is_withdraw kind = eqb kind 4

-- "bytes 1–11 and 16–79 as in a cart, with cart number 1–128. New has every field. Retitle has audio and length zero.
-- Re-cut has title length and title zero. Withdraw has only the cart number." Bytes 12–15 are free: a record's links.
unfoldable pub operation_fields : List ℕ → Bool
operation_fields op =
    let kind = byte op 0 in
    all (within 1 4 kind
    ∷ within 1 cart_count (cart_number op)
    ∷ cond (is_new kind || is_retitle kind) (has_title op) (no_title op)
    ∷ cond (is_new kind || is_recut kind) (has_audio op) (no_audio op) ∷ [])

-- "As handed in, 12–15 are zero."
unfoldable pub operation_form : List ℕ → Bool
operation_form op = all (operation_fields op ∷ all_zero (part op links_at (title_at - links_at)) ∷ [])

-- a new or a retitle
abbrev pub writes_title : List ℕ → Bool
writes_title op = is_new (byte op 0) || is_retitle (byte op 0)

-- S-2: "title begins or ends with byte 32": its letters are bytes 16 to 16 + length − 1
abbrev pub space_at_end : List ℕ → Bool
space_at_end s = eqb (byte s title_at) 32 || eqb (byte s (title_at + byte s 1 - 1)) 32

-- S-2: "A new or retitle whose title begins or ends with byte 32"
unfoldable pub spaced : List ℕ → Bool
spaced op = writes_title op && space_at_end op

-- the operations in the bytes of a commit
unfoldable pub operations_of : List ℕ → List (List ℕ)
operations_of bytes = parts cart_size (length bytes / cart_size) bytes

-- "New on an empty cart makes it held, bytes 1–11 and 16–79 taken from the operation"
unfoldable pub made : List ℕ → List ℕ → List ℕ
made op cart = over (over (set cart 0 1) 1 (links_at - 1) (part op 1 (links_at - 1))) title_at title_size (part op title_at title_size)

-- "retitle replaces byte 1 and bytes 16–79"
unfoldable pub retitled : List ℕ → List ℕ → List ℕ
retitled op cart = over (set cart 1 (byte op 1)) title_at title_size (part op title_at title_size)

-- "re-cut replaces bytes 4–11"
unfoldable pub recut : List ℕ → List ℕ → List ℕ
recut op cart = over cart audio_at (links_at - audio_at) (part op audio_at (links_at - audio_at))

-- the cart is in the right state for the operation: new asks for an empty one, the others for a held one
unfoldable pub meets_cart : List ℕ → List ℕ → Bool
meets_cart op cart = cond (is_new (byte op 0)) (not (held cart)) (held cart)

-- what the operation makes of a cart in the right state, "withdraw makes it empty"; bytes 12–15 of the operation are not read
unfoldable pub effect : List ℕ → List ℕ → List ℕ
effect op cart =
    let kind = byte op 0 in
    let new = made op cart in
    let other = cond (is_retitle kind) (retitled op cart) (cond (is_recut kind) (recut op cart) (cond (is_withdraw kind) (zeros cart_size) cart)) in
    cond (is_new kind) new other

-- "an operation on a cart in the other state changes nothing"
unfoldable pub acted_on : List ℕ → List ℕ → List ℕ
acted_on op cart = let changed = effect op cart in cond (meets_cart op cart) changed cart

-- the operation meets its cart, whose number is in bytes 2–3, in the right state
unfoldable pub meets : List ℕ → List ℕ → Bool
meets copy op = meets_cart op (cart_at copy (cart_number op))

-- the copy after the operation
unfoldable pub act : List ℕ → List ℕ → List ℕ
act copy op = let c = cart_number op in over copy (cart_size * (c - 1)) cart_size (acted_on op (cart_at copy c))

-- "each operation must meet its cart in the right state .. after the ones before it"
unfoldable pub meets_all : List ℕ → List (List ℕ) → Bool
meets_all copy [] = true
meets_all copy (op ∷ ops) = let rest = meets_all (act copy op) ops in meets copy op && rest

-- the copy after a transaction, "operation by operation"
unfoldable pub act_all : List ℕ → List (List ℕ) → List ℕ
act_all copy [] = copy
act_all copy (op ∷ ops) = act_all (act copy op) ops
