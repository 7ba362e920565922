-- Document 02, S-6, "a copy in the outside-broadcast van": the message of a transaction, as the writer at the head end puts it.
use Rattle.std.specs.Prelude.{List, [], ◌∷◌, ◌++◌, map, ℕ, ◌-◌, length}
use Rattle.carts.specs.Bytes.{u16_bytes}
use Rattle.carts.specs.Transaction.{Transaction}
use Rattle.edit_log.specs.Log.{handed_in}
use Rattle.replication.specs.Log.{transaction_after}
use Rattle.replication.specs.declared.control.Control.{Control}

-- operations one after the other
unfoldable pub joined : Transaction → List ℕ
joined [] = []
joined (op ∷ ops) = op ++ joined ops

-- "A message is transaction number (u16, at least 1), operation count (one byte, 1 to 8), a zero byte, then the operations .. and no more"
unfoldable pub message_of : ℕ → Transaction → List ℕ
message_of n t = u16_bytes n ++ (length t ∷ 0 ∷ joined t)

-- the message of transaction n of a log: "the operations as handed to commit"
unfoldable pub message_in : Control → List ℕ → ℕ → List ℕ
message_in c log n = message_of n (map handed_in (transaction_after c log (n - 1)))
