-- The message of a transaction is of the form that the receiver asks for, with that number and those operations.
use mathlib.Core.Path.{◌≡◌, refl, ap, ◌∙◌}
use mathlib.Core.Bool.{true}
use Prim.Native.Nat.{ℕ, ◌+◌, ◌*◌, ◌/◌, ◌≤◌}
use native.Mathlib.Omega.{arith}
use lib.ListN.{length}
use lib.Dec.{eqb}
use borrow.Author.Tests.{le-leb, eq-eqb}
use Rattle.carts.specs.Bytes.{u16, u16_bytes, parts, every}
use Rattle.carts.specs.Operation.{operation_form, operations_of}
use Rattle.carts.specs.Transaction.{Transaction}
use Rattle.carts.proofs.TestLaws.{all_cons, all_nil, within_of}
use Rattle.carts.proofs.OperationLaws.{Operations, forms_fields}
use Rattle.replication.specs.Message.{joined, message_of}
use Rattle.van.specs.Message.{message_number, message_operations, head_form, message_form}
use Rattle.replication.proofs.MessageLaws.{length_joined, parts_joined}

-- a transaction that a message can carry
pub record Sendable (t : Transaction) : Type 0 where
  pub low : 1 ≤ length t
  pub high : length t ≤ 8
  pub sizes : every (λ op. eqb (length op) 80) t ≡ true
  pub forms : every operation_form t ≡ true

pub operations_in : (t : Transaction) → Sendable t → Operations t
operations_in t s = record { sizes = s.sizes; fields = forms_fields t s.forms }

pub number_of : (n : ℕ) (t : Transaction) → message_number (message_of n t) ≡ n
unfolding message_number message_of u16 u16_bytes
number_of n t = omega arith

module _ (n : ℕ) (t : Transaction) (s : Sendable t) where
  pub operations_of_law : message_operations (message_of n t) ≡ t
  unfolding message_operations message_of u16_bytes operations_of
  operations_of_law =
      let l = length_joined t s.sizes in
      let q : length (joined t) / 80 ≡ length t = omega arith in
      ap (λ (k : ℕ). parts 80 k (joined t)) q ∙ parts_joined t s.sizes

  pub length_message : length (message_of n t) ≡ 4 + 80 * length t
  unfolding message_of u16_bytes
  length_message = let l = length_joined t s.sizes in omega arith

  head_formed : 1 ≤ n → head_form (message_of n t) ≡ true
  unfolding head_form message_of u16_bytes
  head_formed h =
      all_cons _ _ (le-leb 1 (message_number (message_of n t)) (omega (arith, number_of n t, h)))
      (all_cons _ _ (within_of 1 8 (length t) s.low s.high) (all_cons _ _ refl (all_cons _ _ (eq-eqb _ _ length_message) all_nil)))

  pub message_formed : 1 ≤ n → message_form (message_of n t) ≡ true
  unfolding message_form
  message_formed h = all_cons _ _ (head_formed h) (all_cons _ _ (ap (every operation_form) operations_of_law ∙ s.forms) all_nil)
