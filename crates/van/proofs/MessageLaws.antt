-- Laws of a message: its first four bytes, its length and its operations.
use mathlib.Core.Path.{◌≡◌, refl, ap, ◌∙◌}
use mathlib.Core.Bool.{Bool, true, false, and-true}
use mathlib.Core.List.{List, [], ◌∷◌, ◌++◌}
use Prim.Native.Nat.{ℕ, ◌+◌, ◌-◌, ◌*◌, ◌<◌, ◌≤◌}
use native.Mathlib.Omega.{arith}
use lib.ListN.{length, take, drop, set}
use lib.Dec.{leb, eqb}
use borrow.Author.Tests.{eqb-true, ne_eqb}
use Rattle.carts.specs.Bytes.{byte, u16_bytes, over, within, all, every}
use Rattle.carts.specs.Operation.{operation_form, operations_of}
use Rattle.carts.proofs.TestLaws.{all_at, all_fails, within_low}
use Rattle.carts.proofs.PartLaws.{length_over, over_pair}
use Rattle.replication.proofs.LayoutLaws.{rest_is}
use Rattle.replication.proofs.OutputLaws.{over_beside}
use Rattle.van.specs.Message.{message_number, message_operations, head_form, message_form}

module _ (x : List ℕ) where
  -- the tests of the first four bytes and the length, read by position
  abbrev head_tests : List Bool
  head_tests = leb 1 (message_number x) ∷ within 1 8 (byte x 2) ∷ eqb (byte x 3) 0 ∷ eqb (length x) (4 + 80 * byte x 2) ∷ []

  pub head_short : length x < 4 → head_form x ≡ false
  unfolding head_form
  head_short h = all_fails 3 head_tests (ne_eqb (length x) (4 + 80 * byte x 2) (λ e. omega arith))

  -- what the form says
  pub head_length : head_form x ≡ true → 84 ≤ length x
  unfolding head_form
  head_length e =
      let count = within_low 1 8 (byte x 2) (all_at 1 head_tests e) in
      let size = eqb-true (length x) (4 + 80 * byte x 2) (all_at 3 head_tests e) in
      omega arith

  -- what is lent on is all that stands after the first four bytes
  pub operations_lent : operations_of (take (length x - 4) (drop 4 x)) ≡ message_operations x
  unfolding message_operations
  operations_lent = ap operations_of (rest_is 4 x)

  pub message_head : head_form x ≡ false → message_form x ≡ false
  unfolding message_form
  message_head e = all_fails 0 (head_form x ∷ every operation_form (message_operations x) ∷ []) e

  pub message_rest : head_form x ≡ true → (b : Bool) → b ≡ every operation_form (operations_of (take (length x - 4) (drop 4 x))) → b ≡ message_form x
  unfolding message_form all
  message_rest e b f = rw (e, and-true) (f ∙ ap (every operation_form) operations_lent)

  -- of a message of its form
  module _ (f : message_form x ≡ true) where
    message_tests : List Bool
    message_tests = head_form x ∷ every operation_form (message_operations x) ∷ []

    pub form_head : head_form x ≡ true
    unfolding message_form message_tests
    form_head = all_at 0 message_tests f

    pub form_operations : every operation_form (message_operations x) ≡ true
    unfolding message_form message_tests
    form_operations = all_at 1 message_tests f

-- the first four bytes, written
pub head_put : (out s : List ℕ) (n count : ℕ) → 4 ≤ length out → s ≡ over out 0 2 (u16_bytes n) → set (set s 2 count) 3 0 ≡ over out 0 4 (u16_bytes n ++ (count ∷ 0 ∷ []))
unfolding u16_bytes
head_put out s n count h e =
    let l = ap length e ∙ length_over out 0 2 (u16_bytes n) (omega arith) refl in
    over_pair s 2 count 0 (omega arith) ∙ ap (λ (z : List ℕ). over z 2 2 (count ∷ 0 ∷ [])) e ∙ over_beside out 0 2 2 (u16_bytes n) (count ∷ 0 ∷ []) (omega arith) refl
