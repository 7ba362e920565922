-- WORKED EXAMPLES of the definitions, by computation: forms, titles that differ by a space, each operation's effect in each state, transactions, title
-- match, found, letters compared.
use mathlib.Core.Path.{◌≡◌, refl}
use mathlib.Core.Bool.{true, false}
use mathlib.Core.List.{List, [], ◌∷◌, ◌++◌}
use Prim.Native.Nat.{ℕ}
use lib.ListN.{length, take, set, replicate}
use Rattle.carts.specs.Bytes.{zeros, u16, u32, u16_bytes, within, all, every, any, all_zero, pairwise}
use Rattle.carts.specs.Cart.{cart_at, printable, title_form, has_title, no_title, has_audio, no_audio, held, held_form, cart_form}
use Rattle.carts.specs.Operation.{operation_fields, operation_form, spaced, made, retitled, recut, meets_cart, effect, acted_on, meets, act, meets_all, act_all}
use Rattle.carts.specs.Title.{shown_by_numbers, found_by_numbers, same_letter, titled, titled_from, titled_in, the_one, search_answer, letters_compared, letters_of, letters_from, letters_in}
use Rattle.carts.specs.declared.titles.Found.TheVariants.{One, None, Several}
use Rattle.carts.proofs.Samples.{u32_bytes, operation, new_cart, retitle_cart, recut_cart, withdraw_cart, top_hour_a, news, long_title}

-- a short copy of eight empty carts; and with cart 7 held
unfoldable none : List ℕ
none = zeros 640

unfoldable A : List ℕ
A = new_cart 7 top_hour_a 501 8000

unfoldable one : List ℕ
one = act none A

-- carts 1 and 2 with titles of 64 bytes that differ in the last; carts 1 and 2 with one title
unfoldable pair : List ℕ
pair = act_all none (new_cart 1 (long_title 49) 1 1 ∷ new_cart 2 (long_title 50) 1 1 ∷ [])

unfoldable twins : List ℕ
twins = act_all none (new_cart 1 top_hour_a 1 1 ∷ new_cart 2 top_hour_a 2 2 ∷ [])

pub record Forms : Type 0 where
  new : operation_form A ≡ true
  retitle : operation_form (retitle_cart 7 (long_title 49)) ≡ true
  recut : operation_form (recut_cart 128 1 1) ≡ true
  withdraw : operation_form (withdraw_cart 1) ≡ true
  title_65 : operation_form (set A 1 65) ≡ false
  title_0 : operation_form (new_cart 7 [] 501 8000) ≡ false
  letter_31 : operation_form (new_cart 7 (31 ∷ []) 501 8000) ≡ false
  letter_127 : operation_form (new_cart 7 (127 ∷ []) 501 8000) ≡ false
  letter_after : operation_form (set A 26 32) ≡ false
  cart_0 : operation_form (withdraw_cart 0) ≡ false
  cart_129 : operation_form (withdraw_cart 129) ≡ false
  kind_5 : operation_form (set (withdraw_cart 1) 0 5) ≡ false
  audio_0 : operation_form (recut_cart 7 0 1) ≡ false
  length_0 : operation_form (recut_cart 7 1 0) ≡ false
  retitle_audio : operation_form (operation 2 7 top_hour_a 1 0) ≡ false
  recut_title : operation_form (operation 3 7 top_hour_a 1 1) ≡ false
  withdraw_length : operation_form (operation 4 7 [] 0 1) ≡ false
  link_handed_in : operation_form (set A 12 1) ≡ false
  link_stored : operation_fields (set A 12 1) ≡ true
  cart_held : cart_form 7 A ≡ true
  cart_empty : cart_form 7 (zeros 80) ≡ true
  cart_other_number : cart_form 8 A ≡ false
  cart_state_2 : cart_form 7 (set A 0 2) ≡ false
  cart_spare_bytes : cart_form 7 (set A 15 1) ≡ false

pub forms : Forms
unfolding A zeros u16 u32 u16_bytes within all every all_zero printable title_form has_title no_title has_audio no_audio held held_form cart_form operation_fields operation_form u32_bytes operation new_cart retitle_cart recut_cart withdraw_cart top_hour_a long_title
forms = record {
  new = refl;
  retitle = refl;
  recut = refl;
  withdraw = refl;
  title_65 = refl;
  title_0 = refl;
  letter_31 = refl;
  letter_127 = refl;
  letter_after = refl;
  cart_0 = refl;
  cart_129 = refl;
  kind_5 = refl;
  audio_0 = refl;
  length_0 = refl;
  retitle_audio = refl;
  recut_title = refl;
  withdraw_length = refl;
  link_handed_in = refl;
  link_stored = refl;
  cart_held = refl;
  cart_empty = refl;
  cart_other_number = refl;
  cart_state_2 = refl;
  cart_spare_bytes = refl;
}

-- cart 7 with the title " News", from before such titles were refused
unfoldable old : List ℕ
old = act none (new_cart 7 (32 ∷ news) 501 8000)

pub record Spaces : Type 0 where
  begins : spaced (new_cart 7 (32 ∷ news) 501 8000) ≡ true
  ends : spaced (new_cart 7 (news ++ (32 ∷ [])) 501 8000) ≡ true
  only : spaced (new_cart 7 (32 ∷ []) 501 8000) ≡ true
  inside : spaced (new_cart 7 (78 ∷ 32 ∷ 119 ∷ []) 501 8000) ≡ false
  retitle_begins : spaced (retitle_cart 7 (32 ∷ news)) ≡ true
  retitle_ends : spaced (retitle_cart 7 (news ++ (32 ∷ []))) ≡ true
  retitle_inside : spaced (retitle_cart 7 top_hour_a) ≡ false
  letter_64 : spaced (new_cart 7 (long_title 32) 1 1) ≡ true
  letter_63 : spaced (new_cart 7 (replicate 62 97 ++ (32 ∷ 97 ∷ [])) 1 1) ≡ false
  recut : spaced (set (recut_cart 7 1 1) 16 32) ≡ false
  withdraw : spaced (set (withdraw_cart 7) 16 32) ≡ false
  last_operation : any spaced (A ∷ withdraw_cart 7 ∷ new_cart 7 (32 ∷ news) 1 1 ∷ []) ≡ true
  no_operation : any spaced (A ∷ withdraw_cart 7 ∷ []) ≡ false
  in_form : operation_form (new_cart 7 (32 ∷ news) 501 8000) ≡ true
  in_log : operation_fields (set (new_cart 7 (32 ∷ news) 501 8000) 12 9) ≡ true
  in_copy : cart_form 7 (cart_at old 7) ≡ true
  matched : titled_in (32 ∷ news) old ≡ 7 ∷ []
  not_matched : titled_in news old ≡ []
  retitled_away : cart_at (act old (retitle_cart 7 news)) 7 ≡ new_cart 7 news 501 8000

pub spaces : Spaces
unfolding none A old zeros u16 u32 u16_bytes within all every any all_zero pairwise cart_at printable title_form has_title no_title has_audio no_audio held held_form cart_form operation_fields operation_form spaced made retitled meets_cart effect acted_on act same_letter titled titled_from titled_in u32_bytes operation new_cart retitle_cart recut_cart withdraw_cart top_hour_a news long_title
spaces = record {
  begins = refl;
  ends = refl;
  only = refl;
  inside = refl;
  retitle_begins = refl;
  retitle_ends = refl;
  retitle_inside = refl;
  letter_64 = refl;
  letter_63 = refl;
  recut = refl;
  withdraw = refl;
  last_operation = refl;
  no_operation = refl;
  in_form = refl;
  in_log = refl;
  in_copy = refl;
  matched = refl;
  not_matched = refl;
  retitled_away = refl;
}

pub record Effects : Type 0 where
  new : cart_at one 7 ≡ A
  new_before : cart_at one 6 ≡ zeros 80
  new_after : cart_at one 8 ≡ zeros 80
  new_on_held : act one (new_cart 7 (long_title 49) 1 1) ≡ one
  new_leaves_links : cart_at (act none (set A 12 1)) 7 ≡ A
  retitle : cart_at (act one (retitle_cart 7 (long_title 49))) 7 ≡ new_cart 7 (long_title 49) 501 8000
  retitle_on_empty : act none (retitle_cart 7 top_hour_a) ≡ none
  recut : cart_at (act one (recut_cart 7 33818625 67372037)) 7 ≡ new_cart 7 top_hour_a 33818625 67372037
  recut_on_empty : act none (recut_cart 7 33818625 67372037) ≡ none
  withdraw : act one (withdraw_cart 7) ≡ none
  withdraw_on_empty : act none (withdraw_cart 7) ≡ none
  transaction : cart_at (act_all one (withdraw_cart 7 ∷ new_cart 7 (long_title 49) 1 1 ∷ recut_cart 7 2 2 ∷ [])) 7 ≡ new_cart 7 (long_title 49) 2 2
  met : meets_all one (withdraw_cart 7 ∷ A ∷ retitle_cart 7 top_hour_a ∷ []) ≡ true
  taken : meets_all one (A ∷ []) ≡ false
  taken_in_turn : meets_all none (new_cart 8 top_hour_a 1 1 ∷ new_cart 8 top_hour_a 1 1 ∷ []) ≡ false
  gone : meets_all one (withdraw_cart 7 ∷ recut_cart 7 1 1 ∷ []) ≡ false

pub effects : Effects
unfolding none A one zeros u16 u32 u16_bytes cart_at held made retitled recut meets_cart effect acted_on meets act meets_all act_all u32_bytes operation new_cart retitle_cart recut_cart withdraw_cart top_hour_a long_title
effects = record {
  new = refl;
  new_before = refl;
  new_after = refl;
  new_on_held = refl;
  new_leaves_links = refl;
  retitle = refl;
  retitle_on_empty = refl;
  recut = refl;
  recut_on_empty = refl;
  withdraw = refl;
  withdraw_on_empty = refl;
  transaction = refl;
  met = refl;
  taken = refl;
  taken_in_turn = refl;
  gone = refl;
}

pub record Reads : Type 0 where
  numbers_found : found_by_numbers one (7 ∷ 8 ∷ 7 ∷ []) ≡ 2
  numbers_shown : shown_by_numbers one (7 ∷ 8 ∷ 7 ∷ []) ≡ A ++ (zeros 80 ++ A)
  last_letter_1 : titled_in (long_title 49) pair ≡ 1 ∷ []
  last_letter_2 : titled_in (long_title 50) pair ≡ 2 ∷ []
  shorter : titled_in (take 63 (long_title 49)) pair ≡ []
  longer : titled_in (top_hour_a ++ (32 ∷ [])) one ≡ []
  title_one : the_one one (titled_in top_hour_a one) ≡ A
  title_none : the_one none (titled_in top_hour_a none) ≡ zeros 80
  title_several : the_one twins (titled_in top_hour_a twins) ≡ zeros 80
  title_found : length (titled_in top_hour_a twins) ≡ 2
  answer_one : search_answer (titled_in top_hour_a one) ≡ One 7
  answer_none : search_answer (titled_in top_hour_a pair) ≡ None
  answer_several : search_answer (titled_in top_hour_a twins) ≡ Several 2

pub reads : Reads
unfolding none A one pair twins zeros u16 u32 u16_bytes pairwise cart_at held made meets_cart effect acted_on act act_all shown_by_numbers found_by_numbers same_letter titled titled_from titled_in the_one search_answer u32_bytes operation new_cart top_hour_a long_title
reads = record {
  numbers_found = refl;
  numbers_shown = refl;
  last_letter_1 = refl;
  last_letter_2 = refl;
  shorter = refl;
  longer = refl;
  title_one = refl;
  title_none = refl;
  title_several = refl;
  title_found = refl;
  answer_one = refl;
  answer_none = refl;
  answer_several = refl;
}

-- cart 7 empty, with the length and the letters of a title in its bytes
unfoldable left_over : List ℕ
left_over = set one 480 0

pub record Letters : Type 0 where
  no_such_length : letters_in (take 9 top_hour_a) one ≡ 0
  longer : letters_in (top_hour_a ++ (32 ∷ [])) one ≡ 0
  one_equal : letters_in top_hour_a one ≡ 10
  first_letter : letters_in (set top_hour_a 0 83) twins ≡ 2
  fourth_letter : letters_in (set top_hour_a 3 45) one ≡ 4
  two_differ : letters_in (set (set top_hour_a 3 45) 7 45) one ≡ 4
  last_letter : letters_in (long_title 51) pair ≡ 128
  equal_and_last_letter : letters_in (long_title 49) pair ≡ 128
  all_matches : letters_in top_hour_a twins ≡ 20
  empty_cart : letters_in top_hour_a left_over ≡ 0
  state_2 : letters_in top_hour_a (set one 480 2) ≡ 0
  no_cart : letters_in top_hour_a none ≡ 0

pub letters : Letters
unfolding none A one pair twins left_over zeros u16 u32 u16_bytes cart_at held made meets_cart effect acted_on act act_all same_letter letters_compared letters_of letters_from letters_in u32_bytes operation new_cart top_hour_a long_title
letters = record {
  no_such_length = refl;
  longer = refl;
  one_equal = refl;
  first_letter = refl;
  fourth_letter = refl;
  two_differ = refl;
  last_letter = refl;
  equal_and_last_letter = refl;
  all_matches = refl;
  empty_cart = refl;
  state_2 = refl;
  no_cart = refl;
}
