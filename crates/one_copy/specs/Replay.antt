-- The single library of the one-copy order: what it plays, and when its answers are those that were given.
use Rattle.std.specs.Prelude.{Bool, true, cond, ◌&&◌, List, ℕ, zero, suc, ◌+◌, ◌*◌, length, eqb, leb}
use Rattle.replication.specs.Memory.{session_size, numbers_most}
use Rattle.carts.specs.Bytes.{byte, part, within, every, pairwise}
use Rattle.carts.specs.Cart.{cart_at, held, cart_size, cart_count, title_size, title_at}
use Rattle.carts.specs.Operation.{operation_form, operations_of, meets_all}
use Rattle.carts.specs.Title.{titled_in, the_one}
use Rattle.lines.specs.Text.{part_in}
use Rattle.lines.specs.Build.{asked_at}

-- the operations are of their form, and each meets its cart in the right state after the ones before it
unfoldable pub plays : List ℕ → List ℕ → Bool
plays copy ops = every operation_form (operations_of ops) && meets_all copy (operations_of ops)

-- cart c is what was shown in its place; whether it is held
unfoldable pub place_agrees : List ℕ → ℕ → List ℕ → Bool
place_agrees copy c place = within 1 cart_count c && pairwise eqb (cart_at copy c) place

unfoldable pub is_held_at : List ℕ → ℕ → Bool
is_held_at copy c = within 1 cart_count c && held (cart_at copy c)

-- n places from place i on
unfoldable pub places_agree : List ℕ → List ℕ → List ℕ → ℕ → ℕ → Bool
places_agree copy request shown i zero = true
places_agree copy request shown i (suc n) =
    let rest = places_agree copy request shown (i + 1) n in place_agrees copy (asked_at request i) (part_in shown (cart_size * i) cart_size) && rest

unfoldable pub held_places : List ℕ → List ℕ → ℕ → ℕ → ℕ
held_places copy request i zero = 0
held_places copy request i (suc n) = cond (is_held_at copy (asked_at request i)) 1 0 + held_places copy request (i + 1) n

-- at most 32 numbers, each cart the one shown in its place, and found the places held
unfoldable pub numbers_agree : List ℕ → List ℕ → ℕ → List ℕ → Bool
numbers_agree copy request found shown =
    let n = byte request 1 in
    leb n numbers_most && (places_agree copy request shown 0 n && eqb (held_places copy request 0 n) found)

-- found the carts of the title, and the one cart shown, or zeros
unfoldable pub title_agrees : List ℕ → List ℕ → ℕ → List ℕ → Bool
title_agrees copy title found shown = eqb (length (titled_in title copy)) found && pairwise eqb (the_one copy (titled_in title copy)) (part_in shown 0 cart_size)

-- the state is the count, and the rest by the kind of the request
unfoldable pub read_agrees : List ℕ → ℕ → List ℕ → ℕ → ℕ → List ℕ → Bool
read_agrees copy count request state found shown =
    let by_numbers = numbers_agree copy request found shown in
    let by_title = leb (byte request 1) title_size && title_agrees copy (part request title_at (byte request 1)) found shown in
    eqb state count && (eqb (length request) session_size && cond (eqb (byte request 0) 1) by_numbers (eqb (byte request 0) 2 && by_title))
