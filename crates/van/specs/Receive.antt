-- Document 02, S-6: "a receiver with one lent copy of 10,240 bytes and an applied number", for any bytes and any number.
use Rattle.std.specs.Prelude.{Bool, cond, not, List, [], ◌∷◌, ℕ, ◌+◌, length, leb, ltb, eqb}
use Rattle.carts.specs.Bytes.{zeros, all}
use Rattle.carts.specs.Cart.{copy_size, copy_form}
use Rattle.carts.specs.Operation.{act_all}
use Rattle.replication.specs.Rows.{Row, row, stopped, unless}
use Rattle.van.specs.Message.{message_number, message_operations, message_form}
use Rattle.van.specs.Answer.{Answer, refused, applied, held}

-- a van: its copy (a replica), and how many transactions it has applied
pub record Van : Type 0 where
  pub copy : List ℕ
  pub applied : ℕ

abbrev pub van : List ℕ → ℕ → Van
van copy n = record { copy = copy; applied = n }

-- "A fresh van has an empty copy and applied 0."
unfoldable pub fresh_van : Van
fresh_van = van (zeros copy_size) 0

-- "one lent copy of 10,240 bytes", of the layout: each cart within its rule
unfoldable pub van_form : List ℕ → Bool
van_form copy = all (eqb (length copy) copy_size ∷ copy_form copy ∷ [])

-- "Refusals 17, at the receiver a message out of form or a copy not of the layout, ..; then 18, at the receiver, a number above applied + 1"
unfoldable pub receive_rows : Van → List ℕ → List Row
receive_rows v x =
    row 17 (not (all (message_form x ∷ van_form v.copy ∷ [])))
    ∷ row 18 (ltb (v.applied + 1) (message_number x)) ∷ []

-- what the receiver answers and leaves
pub record After : Type 0 where
  pub answer : Answer
  pub van : Van

abbrev pub after : Answer → Van → After
after a v = record { answer = a; van = v }

-- "The receiver applies number applied + 1 and returns it. It answers a number already applied as held and changes nothing."
unfoldable pub receive : Van → List ℕ → After
receive v x =
    let n = message_number x in
    unless (stopped (receive_rows v x)) (λ k. after (refused k) v)
    (cond (leb n v.applied) (after (held n) v) (after (applied n) (van (act_all v.copy (message_operations x)) n)))

-- "received from a fresh van": messages one after the other
unfoldable pub receive_all : Van → List (List ℕ) → Van
receive_all v [] = v
receive_all v (x ∷ xs) = receive_all (receive v x).van xs
