-- Laws of a message: the operations one after the other, and the message of a transaction in the log.
use mathlib.Core.Path.{◌≡◌, refl, sym, ap, ap₂, ◌∙◌}
use mathlib.Core.Bool.{true, false, false≢true}
use mathlib.Core.List.{List, [], ◌∷◌}
use Prim.Native.Nat.{ℕ, ◌-◌, ◌*◌, ◌<◌, ◌≤◌}
use native.Mathlib.Omega.{arith}
use native.Mathlib.Decide.{dec_le}
use lib.ListN.{length, get_or, length-append}
use lib.Seq.{take_at, drop_at}
use lib.Dec.{eqb}
use Rattle.carts.specs.Bytes.{within, every, parts}
use Rattle.carts.specs.Transaction.{Transaction}
use Rattle.carts.proofs.TestLaws.{within_high, within_of}
use Rattle.carts.proofs.OperationLaws.{sizes_first}
use Rattle.replication.specs.Log.{log_count, transaction_after, logged}
use Rattle.replication.specs.Message.{joined, message_of, message_in}
use Rattle.replication.specs.declared.control.Control.{Control}
use Rattle.edit_log.proofs.TransactionLaws.{transactions_at}

-- how many bytes the operations are, and taken apart again
pub length_joined : (t : Transaction) → every (λ op. eqb (length op) 80) t ≡ true → length (joined t) ≡ 80 * length t
unfolding joined
length_joined [] h = refl
length_joined (op ∷ t) h =
    let (size, sizes) = sizes_first op t h in
    let rest = length_joined t sizes in
    let a = length-append op (joined t) in
    omega arith

pub parts_joined : (t : Transaction) → every (λ op. eqb (length op) 80) t ≡ true → parts 80 (length t) (joined t) ≡ t
unfolding joined parts
parts_joined [] h = refl
parts_joined (op ∷ t) h =
    let (size, sizes) = sizes_first op t h in
    ap₂ ◌∷◌ (take_at op (joined t) 80 size) (ap (parts 80 (length t)) (drop_at op (joined t) 80 size) ∙ parts_joined t sizes)

-- a number that is not retired
pub not_retired : (retired n : ℕ) → 1 ≤ n → within 1 retired n ≡ false → retired < n
not_retired retired n low e = go (dec_le n retired)
  where
    go : Dec (n ≤ retired) → retired < n
    go (yes l) = absurd (false≢true (sym e ∙ within_of 1 retired n low l))
    go (no l) = omega arith

-- the message of a transaction in the log is that of the transaction in the list
pub same_message : (c : Control) (log : List ℕ) (n : ℕ) → c.retired < n → within 1 c.commits n ≡ true
    → message_in c log n ≡ message_of n (get_or (logged c log) (n - 1 - c.retired) [])
unfolding message_in transaction_after log_count
same_message c log n l w =
    let high = within_high 1 c.commits n w in
    ap (message_of n) (sym (transactions_at (c.commits - c.retired) log c.oldest (n - 1 - c.retired) (omega arith)))
