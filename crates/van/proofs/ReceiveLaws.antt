-- Laws of the receiver: its rows, and its three answers.
use mathlib.Core.Path.{◌≡◌, refl, sym, ap, ◌∙◌}
use mathlib.Core.Bool.{Bool, true, false, and-true, not}
use mathlib.Core.List.{List, [], ◌∷◌}
use Prim.Native.Nat.{ℕ, ◌+◌, ◌-◌, ◌<◌, ◌≤◌}
use native.Mathlib.Omega.{arith}
use lib.ListN.{length, take, drop}
use lib.Dec.{ltb, eqb}
use borrow.Author.Tests.{not-false, ltb-true, ltb-false, eqb-true, eq-eqb, ne_eqb, lt-ltb, le-ltb, le-leb, lt-leb}
use Rattle.carts.specs.Bytes.{all, every}
use Rattle.carts.specs.Cart.{copy_form}
use Rattle.carts.specs.Operation.{operation_fields, operations_of, act_all}
use Rattle.carts.proofs.TestLaws.{all_at, all_fails, all_cons, all_nil}
use Rattle.carts.proofs.OperationLaws.{forms_fields}
use Rattle.replication.specs.Rows.{stopped, unless}
use Rattle.replication.proofs.RowLaws.{passed, row_stops, row_passes, unless_stopped}
use Rattle.van.specs.Message.{message_number, message_operations, message_form}
use Rattle.van.specs.Answer.{refused, applied, held}
use Rattle.van.specs.Receive.{van, van_form, receive_rows, after, receive}
use Rattle.van.proofs.MessageLaws.{operations_lent, head_length, form_head, form_operations}

-- the van's copy: its length and its form
pub copy_length : (copy : List ℕ) → (length copy ≡ 10240 → ⊥) → false ≡ van_form copy
unfolding van_form
copy_length copy h = sym (all_fails 0 (eqb (length copy) 10240 ∷ copy_form copy ∷ []) (ne_eqb (length copy) 10240 h))

pub copy_rest : (copy : List ℕ) (b : Bool) → length copy ≡ 10240 → b ≡ copy_form copy → b ≡ van_form copy
unfolding van_form all
copy_rest copy b h e = rw (eq-eqb (length copy) 10240 h, and-true) e

-- a number above the next one
pub not_ahead : (k n : ℕ) → n ≤ k → false ≡ ltb (k + 1) n
not_ahead k n h = sym (le-ltb (k + 1) n (omega arith))

pub ahead_by : (k n : ℕ) → k < n → ltb 1 (n - k) ≡ ltb (k + 1) n
ahead_by k n h = go (ltb 1 (n - k)) refl
  where
    go : (b : Bool) → ltb 1 (n - k) ≡ b → b ≡ ltb (k + 1) n
    go true e = sym (lt-ltb (k + 1) n (let l = ltb-true 1 (n - k) e in omega arith))
    go false e = sym (le-ltb (k + 1) n (let l = ltb-false 1 (n - k) e in omega arith))

module _ (copy : List ℕ) (k : ℕ) (x : List ℕ) where
  abbrev Row17 : List Bool
  Row17 = message_form x ∷ van_form copy ∷ []

  pub bad_message : message_form x ≡ false → 17 ≡ stopped (receive_rows (van copy k) x)
  unfolding receive_rows
  bad_message e = row_stops 17 (not (all Row17)) _ (ap not (all_fails 0 Row17 e))

  pub bad_copy : van_form copy ≡ false → 17 ≡ stopped (receive_rows (van copy k) x)
  unfolding receive_rows
  bad_copy e = row_stops 17 (not (all Row17)) _ (ap not (all_fails 1 Row17 e))

  module _ (f : message_form x ≡ true) (g : van_form copy ≡ true) where
    right : all Row17 ≡ true
    right = all_cons _ _ f (all_cons _ _ g all_nil)

    pub ahead : ltb (k + 1) (message_number x) ≡ true → 18 ≡ stopped (receive_rows (van copy k) x)
    unfolding receive_rows
    ahead e = row_stops 18 _ [] e ∙ sym (row_passes 17 (not (all Row17)) _ (ap not right))

    pub next_or_held : ltb (k + 1) (message_number x) ≡ false → 0 ≡ stopped (receive_rows (van copy k) x)
    unfolding receive_rows stopped
    next_or_held e = rw (right, e)

-- what is known where no row stops the receiver
pub record Receivable (copy x : List ℕ) : Type 0 where
  pub size : length copy ≡ 10240
  pub head : 84 ≤ length x
  pub operations : every operation_fields (operations_of (take (length x - 4) (drop 4 x))) ≡ true

module _ (copy : List ℕ) (k : ℕ) (x : List ℕ) (v : ℕ) (e : v ≡ stopped (receive_rows (van copy k) x)) where
  pub receive_refused : (v ≡ 0 → ⊥) → after (refused v) (van copy k) ≡ receive (van copy k) x
  unfolding receive
  receive_refused n = rw e (unless_stopped _ _ _ (λ z. n (e ∙ z)))

  module _ (z : v ≡ 0) where
    forms : all (message_form x ∷ van_form copy ∷ []) ≡ true
    unfolding receive_rows
    forms = not-false _ (passed 16 _ _ (sym e ∙ z)).0

    pub receive_known : Receivable copy x
    unfolding van_form
    receive_known =
        let f = all_at 0 (message_form x ∷ van_form copy ∷ []) forms in
        let g = all_at 1 (message_form x ∷ van_form copy ∷ []) forms in
        record {
          size = eqb-true (length copy) 10240 (all_at 0 (eqb (length copy) 10240 ∷ copy_form copy ∷ []) g);
          head = head_length x (form_head x f);
          operations = rw (operations_lent x) (forms_fields (message_operations x) (form_operations x f));
        }

    module _ (n : ℕ) (m : n ≡ message_number x) where
      pub receive_held : n ≤ k → after (held n) (van copy k) ≡ receive (van copy k) x
      unfolding receive unless
      receive_held h = rw (sym e, z, sym m, le-leb n k h)

      pub receive_applied : k < n → (new : List ℕ) → new ≡ act_all copy (operations_of (take (length x - 4) (drop 4 x))) → after (applied n) (van new n) ≡ receive (van copy k) x
      unfolding receive unless
      receive_applied h new g = rw (sym e, z, sym m, lt-leb n k h) (ap (λ (s : List ℕ). after (applied n) (van s n)) (g ∙ ap (act_all copy) (operations_lent x)))
