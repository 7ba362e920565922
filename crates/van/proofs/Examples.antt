-- WORKED EXAMPLES of the definitions, by computation: messages in and out of form, and a van that receives some.
use mathlib.Core.Path.{◌≡◌, refl}
use mathlib.Core.Bool.{true, false}
use mathlib.Core.List.{List, [], ◌∷◌, ◌++◌}
use Prim.Native.Nat.{ℕ}
use lib.ListN.{take, set, replicate}
use Rattle.carts.specs.Bytes.{zeros, u16, u32, u16_bytes, within, all, every, all_zero, parts, each_part}
use Rattle.carts.specs.Cart as Cart
use Rattle.carts.specs.Cart.{cart_at, printable, title_form, has_title, no_title, has_audio, no_audio, held_form, cart_form, copy_form}
use Rattle.carts.specs.Operation.{operation_fields, operation_form, operations_of, made, retitled, recut, meets_cart, effect, acted_on, act, act_all}
use Rattle.carts.proofs.Samples.{u32_bytes, operation, new_cart, retitle_cart, recut_cart, top_hour_a, news}
use Rattle.replication.specs.Message.{joined, message_of}
use Rattle.replication.specs.Rows.{stopped, unless}
use Rattle.van.specs.Message.{message_number, message_operations, head_form, message_form}
use Rattle.van.specs.Answer.{Answer, refused, applied, held}
use Rattle.van.specs.Receive.{Van, van, fresh_van, van_form, receive_rows, receive}

-- a new cart 7; one whose title ends with a space
unfoldable pub A : List ℕ
A = new_cart 7 top_hour_a 501 8000

unfoldable pub B : List ℕ
B = new_cart 8 (news ++ (32 ∷ [])) 502 9000

-- three transactions: cart 7 is new; it is retitled and re-cut; cart 8 is new
unfoldable pub first : List ℕ
first = message_of 1 (A ∷ [])

unfoldable pub second : List ℕ
second = message_of 2 (retitle_cart 7 news ∷ recut_cart 7 503 7000 ∷ [])

unfoldable pub third : List ℕ
third = message_of 3 (B ∷ [])

-- "number (u16, at least 1), operation count (one byte, 1 to 8), a zero byte, then the operations as handed to commit (spaces at a title's ends allowed) and no more"
pub record Forms : Type 0 where
  one : message_form first ≡ true
  two : message_form second ≡ true
  spaced : message_form third ≡ true
  highest : message_form (message_of 65535 (A ∷ [])) ≡ true
  eight : message_form (message_of 1 (replicate 8 A)) ≡ true
  nine : message_form (message_of 1 (replicate 9 A)) ≡ false
  none : message_form (message_of 1 []) ≡ false
  number_0 : message_form (message_of 0 (A ∷ [])) ≡ false
  not_zero : message_form (set first 3 1) ≡ false
  links : message_form (set first 16 1) ≡ false
  other_count : message_form (set second 2 1) ≡ false
  trailing_byte : message_form (first ++ (0 ∷ [])) ≡ false
  cut : message_form (take 83 first) ≡ false
  head_alone : message_form (take 4 first) ≡ false
  three_bytes : message_form (take 3 first) ≡ false
  empty : message_form [] ≡ false

pub forms : Forms
unfolding message_form head_form message_number message_operations message_of joined first second third A B operation_form operation_fields operations_of new_cart retitle_cart recut_cart operation top_hour_a news u32_bytes u16_bytes u16 u32 has_title no_title has_audio no_audio title_form printable zeros parts all every all_zero within
forms = record {
  one = refl;
  two = refl;
  spaced = refl;
  highest = refl;
  eight = refl;
  nine = refl;
  none = refl;
  number_0 = refl;
  not_zero = refl;
  links = refl;
  other_count = refl;
  trailing_byte = refl;
  cut = refl;
  head_alone = refl;
  three_bytes = refl;
  empty = refl;
}

-- what a van answers and has applied after each of a list of messages
unfoldable pub answers : Van → List (List ℕ) → List (Answer × ℕ)
answers v [] = []
answers v (x ∷ xs) = let r = receive v x in (r.answer, r.van.applied) ∷ answers r.van xs

-- a message too soon, the first, a repeat, a damaged repeat, one too soon, the second, the first once more, the third
pub delivered : answers fresh_van (second ∷ first ∷ first ∷ set first 3 1 ∷ third ∷ second ∷ first ∷ third ∷ [])
    ≡ (refused 18, 0) ∷ (applied 1, 1) ∷ (held 1, 1) ∷ (refused 17, 1) ∷ (refused 18, 1) ∷ (applied 2, 2) ∷ (held 1, 2) ∷ (applied 3, 3) ∷ []
unfolding answers fresh_van receive receive_rows stopped unless van_form copy_form cart_form held_form Cart.held each_part message_form head_form message_number message_operations message_of joined first second third A B operation_form operation_fields operations_of new_cart retitle_cart recut_cart operation top_hour_a news u32_bytes u16_bytes u16 u32 has_title no_title has_audio no_audio title_form printable zeros parts all every all_zero within act_all act acted_on cart_at meets_cart effect made retitled recut
delivered = refl

-- 17 before 18, for a message and for a copy that is one byte short; before held, for a copy with a byte set in an empty cart; the largest applied number holds every
-- message
pub record Told : Type 0 where
  ahead_unformed : answers fresh_van (set third 3 1 ∷ []) ≡ (refused 17, 0) ∷ []
  copy_short : answers (van (zeros 10239) 0) (third ∷ []) ≡ (refused 17, 0) ∷ []
  copy_unformed : answers (van (set (zeros 10240) 10239 1) 1) (first ∷ []) ≡ (refused 17, 1) ∷ []
  most : answers (van (zeros 10240) 4294967295) (first ∷ third ∷ []) ≡ (held 1, 4294967295) ∷ (held 3, 4294967295) ∷ []

pub told : Told
unfolding answers fresh_van receive receive_rows stopped unless van_form copy_form cart_form held_form Cart.held each_part message_form head_form message_number message_operations message_of joined first second third A B operation_form operation_fields operations_of new_cart retitle_cart recut_cart operation top_hour_a news u32_bytes u16_bytes u16 u32 has_title no_title has_audio no_audio title_form printable zeros parts all every all_zero within act_all act acted_on cart_at meets_cart effect made retitled recut
told = record { ahead_unformed = refl; copy_short = refl; copy_unformed = refl; most = refl }
