-- Document 02, S-6: a message as the van's receiver reads it, for any bytes.
use Rattle.std.specs.Prelude.{Bool, List, [], ◌∷◌, ℕ, ◌+◌, ◌*◌, length, drop, leb, eqb}
use Rattle.carts.specs.Bytes.{byte, u16, within, all, every}
use Rattle.carts.specs.Cart.{cart_size}
use Rattle.carts.specs.Operation.{operation_form, operations_of}
use Rattle.carts.specs.Transaction.{Transaction}
use Rattle.edit_log.specs.Log.{most_operations}

-- "transaction number (u16, ..), operation count (one byte, ..), a zero byte, then the operations": where they begin
abbrev pub head_size : ℕ
head_size = 4

-- "transaction number (u16, ..)"
unfoldable pub message_number : List ℕ → ℕ
message_number x = u16 x 0

-- "then the operations"
unfoldable pub message_operations : List ℕ → Transaction
message_operations x = operations_of (drop head_size x)

-- "number (u16, at least 1), operation count (one byte, 1 to 8), a zero byte, .. and no more": the first four bytes and the length
unfoldable pub head_form : List ℕ → Bool
head_form x =
    let count = byte x 2 in
    all (leb 1 (message_number x) ∷ within 1 most_operations count ∷ eqb (byte x 3) 0 ∷ eqb (length x) (head_size + cart_size * count) ∷ [])

-- "then the operations as handed to commit (spaces at a title's ends allowed)"
unfoldable pub message_form : List ℕ → Bool
message_form x = all (head_form x ∷ every operation_form (message_operations x) ∷ [])
