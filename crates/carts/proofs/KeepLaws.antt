-- An operation of its fields leaves a copy of its form: the carts that it does not name are unchanged, the one that it names stays of its form.
use Prim.Native.Nat.{ℕ, ◌-◌, ◌*◌, ◌≤◌}
use mathlib.Core.Path.{◌≡◌, refl, sym, ap, ◌∙◌}
use mathlib.Core.Bool.{Bool, true, false, not, cond, ◌||◌, or-true, or-false}
use mathlib.Core.List.{List, [], ◌∷◌}
use native.Mathlib.Omega.{arith}
use lib.Dec.{eqb}
use lib.ListN.{length, get_or, take, set, length-set}
use lib.Seq.{get_or-set_same, get_or-set_other, drop-set-lt}
use borrow.Author.Tests.{eq-eqb, eqb-true, eqb-false}
use Rattle.carts.specs.Bytes.{zeros, byte, u16, part, over, all, all_zero}
use Rattle.carts.specs.Cart.{cart_at, has_title, has_audio, held, held_form, cart_form, copy_form}
use Rattle.carts.specs.Operation.{is_new, is_retitle, is_recut, is_withdraw, operation_fields, writes_title, made, retitled, recut, meets_cart, effect, acted_on, act, act_all}
use Rattle.carts.proofs.CartLaws.{length_cart, cart_held}
use Rattle.carts.proofs.OperationLaws.{operation_tests, length_acted, length_act_all, acts_keep, fields_cart, Operations}
use Rattle.carts.proofs.PartLaws.{length_part, length_over, part_over, over_before, over_after, part_in, byte_in, u16_in, u32_in}
use Rattle.carts.proofs.EachLaws.{from_one, to_one}
pub use Rattle.carts.proofs.EachLaws.{record_other}
use Rattle.carts.proofs.ScanLaws.{zero_part, zero_zeros}
use Rattle.carts.proofs.TestLaws.{all_at}

-- the carts of a copy after an operation
module _ (copy op : List ℕ) (l : length copy ≡ 10240) (o : length op ≡ 80) (low : 1 ≤ u16 op 2) (high : u16 op 2 ≤ 128) where
  pub act_named : cart_at (act copy op) (u16 op 2) ≡ acted_on op (cart_at copy (u16 op 2))
  unfolding act cart_at
  act_named = part_over copy (80 * (u16 op 2 - 1)) 80 (acted_on op (cart_at copy (u16 op 2))) (omega arith) (length_acted op (cart_at copy (u16 op 2)) o (length_cart copy (u16 op 2) l high))

  pub act_other : (c : ℕ) → 1 ≤ c → (c ≡ u16 op 2 → ⊥) → cart_at (act copy op) c ≡ cart_at copy c
  unfolding act cart_at
  act_other c h ne = record_other copy (acted_on op (cart_at copy (u16 op 2))) 80 (u16 op 2 - 1) (c - 1) (omega arith) (length_acted op (cart_at copy (u16 op 2)) o (length_cart copy (u16 op 2) l high)) (λ e. ne (omega arith))

-- what holds of each cart of a copy, and of the cart that an operation leaves, holds of each cart after the operation
pub act_each : (P : ℕ → List ℕ → Type 0) (copy op : List ℕ) → length copy ≡ 10240 → length op ≡ 80 → operation_fields op ≡ true
    → P (u16 op 2) (acted_on op (cart_at copy (u16 op 2))) → ((c : ℕ) → 1 ≤ c → c ≤ 128 → P c (cart_at copy c)) → (c : ℕ) → 1 ≤ c → c ≤ 128 → P c (cart_at (act copy op) c)
act_each P copy op l o f named others c h k = pick (eqb c (u16 op 2)) refl
  where
    pick : (b : Bool) → eqb c (u16 op 2) ≡ b → P c (cart_at (act copy op) c)
    pick true q =
        let r = fields_cart op f in
        let n : c ≡ u16 op 2 = eqb-true c (u16 op 2) q in
        rw (n, act_named copy op l o r.0 r.1) named
    pick false q = let r = fields_cart op f in rw (act_other copy op l o r.0 r.1 c h (eqb-false c (u16 op 2) q)) (others c h k)

-- a copy is of its form where each of its carts is
pub copy_cart : (copy : List ℕ) (c : ℕ) → copy_form copy ≡ true → 1 ≤ c → c ≤ 128 → cart_form c (cart_at copy c) ≡ true
unfolding copy_form cart_at
copy_cart copy c e h k = from_one cart_form 80 128 copy e c h k

pub copy_of : (copy : List ℕ) → ((c : ℕ) → 1 ≤ c → c ≤ 128 → cart_form c (cart_at copy c) ≡ true) → copy_form copy ≡ true
unfolding copy_form cart_at
copy_of copy f = to_one cart_form 80 128 copy f

-- a held cart's form, test by test
module _ (c : ℕ) (s : List ℕ) where
  abbrev held_tests : List Bool
  held_tests = held s ∷ eqb (u16 s 2) c ∷ has_title s ∷ has_audio s ∷ all_zero (part s 12 4) ∷ []

  held_of : held s ≡ true → u16 s 2 ≡ c → has_title s ≡ true → has_audio s ≡ true → all_zero (part s 12 4) ≡ true → cart_form c s ≡ true
  unfolding cart_form held_form all
  held_of h n t a z = rw (h, eq-eqb (u16 s 2) c n, t, a, z) (or-true (all_zero s))

  held_test : (i : ℕ) → held_form c s ≡ true → get_or held_tests i true ≡ true
  unfolding held_form
  held_test i e = all_at i held_tests e

-- state, title and audio are told by their bytes
held_by : (s t : List ℕ) → byte s 0 ≡ byte t 0 → held s ≡ held t
unfolding held
held_by s t e = rw e

title_by : (s t : List ℕ) → byte s 1 ≡ byte t 1 → part s 16 64 ≡ part t 16 64 → has_title s ≡ has_title t
unfolding has_title
title_by s t e f = rw (e, f)

audio_by : (s t : List ℕ) → part s 4 8 ≡ part t 4 8 → has_audio s ≡ has_audio t
unfolding has_audio
audio_by s t e = rw (u32_in s t 4 8 e 4 (omega arith) (omega arith), u32_in s t 4 8 e 8 (omega arith) (omega arith))

-- zeros are a copy of empty carts
pub copy_empty : (copy : List ℕ) → all_zero copy ≡ true → copy_form copy ≡ true
unfolding cart_form cart_at
copy_empty copy e = copy_of copy (λ c h k. rw (zero_part copy (80 * (c - 1)) 80 e))

-- the four effects
module _ (op cart : List ℕ) (o : length op ≡ 80) (l : length cart ≡ 80) where
  made_form : has_title op ≡ true → has_audio op ≡ true → all_zero cart ≡ true → cart_form (u16 op 2) (made op cart) ≡ true
  unfolding held made
  made_form t a z =
      let first = set cart 0 1 in
      let k : length first ≡ 80 = length-set cart 0 1 ∙ l in
      let fields = part op 1 11 in
      let f : length fields ≡ 11 = length_part op 1 11 (omega arith) in
      let front = over first 1 11 fields in
      let n : length front ≡ 80 = length_over first 1 11 fields (omega arith) f ∙ k in
      let title = part op 16 64 in
      let s = over front 16 64 title in
      let mid : part s 1 11 ≡ part op 1 11 = over_before front 16 64 title 1 11 (omega arith) (omega arith) ∙ part_over first 1 11 fields (omega arith) f in
      let start : part s 0 1 ≡ part first 0 1 = over_before front 16 64 title 0 1 (omega arith) (omega arith) ∙ over_before first 1 11 fields 0 1 (omega arith) (omega arith) in
      let links : part s 12 4 ≡ part cart 12 4 = over_before front 16 64 title 12 4 (omega arith) (omega arith) ∙ over_after first 1 11 fields 12 4 (omega arith) f (omega arith) ∙ ap (λ r. take 4 r) (drop-set-lt 12 cart 0 1 (omega arith)) in
      let text : part s 16 64 ≡ part op 16 64 = part_over front 16 64 title (omega arith) (length_part op 16 64 (omega arith)) in
      held_of (u16 op 2) s
      (eq-eqb (byte s 0) 1 (byte_in s first 0 1 start 0 (omega arith) (omega arith) ∙ get_or-set_same cart 0 1 0 (omega arith)))
      (u16_in s op 1 11 mid 2 (omega arith) (omega arith))
      (title_by s op (byte_in s op 1 11 mid 1 (omega arith) (omega arith)) text ∙ t)
      (audio_by s op (part_in s op 1 11 mid 4 8 (omega arith) (omega arith)) ∙ a)
      (ap all_zero links ∙ zero_part cart 12 4 z)

  retitled_form : (c : ℕ) → has_title op ≡ true → held_form c cart ≡ true → cart_form c (retitled op cart) ≡ true
  unfolding retitled
  retitled_form c t e =
      let first = set cart 1 (byte op 1) in
      let k : length first ≡ 80 = length-set cart 1 (byte op 1) ∙ l in
      let title = part op 16 64 in
      let s = over first 16 64 title in
      let front : part s 0 16 ≡ part first 0 16 = over_before first 16 64 title 0 16 (omega arith) (omega arith) in
      let rest : part s 2 14 ≡ part cart 2 14 = part_in s first 0 16 front 2 14 (omega arith) (omega arith) ∙ ap (λ r. take 14 r) (drop-set-lt 2 cart 1 (byte op 1) (omega arith)) in
      let state : byte s 0 ≡ byte cart 0 = byte_in s first 0 16 front 0 (omega arith) (omega arith) ∙ get_or-set_other cart 1 0 (byte op 1) 0 (λ e. omega arith) in
      let letters : byte s 1 ≡ byte op 1 = byte_in s first 0 16 front 1 (omega arith) (omega arith) ∙ get_or-set_same cart 1 (byte op 1) 0 (omega arith) in
      held_of c s
      (held_by s cart state ∙ held_test c cart 0 e)
      (u16_in s cart 2 14 rest 2 (omega arith) (omega arith) ∙ eqb-true (u16 cart 2) c (held_test c cart 1 e))
      (title_by s op letters (part_over first 16 64 title (omega arith) (length_part op 16 64 (omega arith))) ∙ t)
      (audio_by s cart (part_in s cart 2 14 rest 4 8 (omega arith) (omega arith)) ∙ held_test c cart 3 e)
      (ap all_zero (part_in s cart 2 14 rest 12 4 (omega arith) (omega arith)) ∙ held_test c cart 4 e)

  recut_form : (c : ℕ) → has_audio op ≡ true → held_form c cart ≡ true → cart_form c (recut op cart) ≡ true
  unfolding recut
  recut_form c a e =
      let audio = part op 4 8 in
      let f : length audio ≡ 8 = length_part op 4 8 (omega arith) in
      let s = over cart 4 8 audio in
      let front : part s 0 4 ≡ part cart 0 4 = over_before cart 4 8 audio 0 4 (omega arith) (omega arith) in
      held_of c s
      (held_by s cart (byte_in s cart 0 4 front 0 (omega arith) (omega arith)) ∙ held_test c cart 0 e)
      (u16_in s cart 0 4 front 2 (omega arith) (omega arith) ∙ eqb-true (u16 cart 2) c (held_test c cart 1 e))
      (title_by s cart (byte_in s cart 0 4 front 1 (omega arith) (omega arith)) (over_after cart 4 8 audio 16 64 (omega arith) f (omega arith)) ∙ held_test c cart 2 e)
      (audio_by s op (part_over cart 4 8 audio (omega arith) f) ∙ a)
      (ap all_zero (over_after cart 4 8 audio 12 4 (omega arith) f (omega arith)) ∙ held_test c cart 4 e)

  -- what the operation's kind asks for is there
  pub title_there : operation_fields op ≡ true → writes_title op ≡ true → has_title op ≡ true
  unfolding operation_fields
  title_there e k = rw k at (all_at 2 (operation_tests op) e)

  audio_there : operation_fields op ≡ true → (is_new (byte op 0) || is_recut (byte op 0)) ≡ true → has_audio op ≡ true
  unfolding operation_fields
  audio_there e k = rw k at (all_at 3 (operation_tests op) e)

  module _ (fields : operation_fields op ≡ true) (form : cart_form (u16 op 2) cart ≡ true) where
    new_kept : held cart ≡ false → is_new (byte op 0) ≡ true → cart_form (u16 op 2) (made op cart) ≡ true
    unfolding cart_form held_form all
    new_kept h k =
        let z : all_zero cart ≡ true = sym (or-false (all_zero cart)) ∙ (rw h at form) in
        made_form (title_there fields (rw k refl)) (audio_there fields (rw k refl)) z

    other_kept : held cart ≡ true → (k₂ k₃ k₄ : Bool) → is_retitle (byte op 0) ≡ k₂ → is_recut (byte op 0) ≡ k₃
        → cart_form (u16 op 2) (cond k₂ (retitled op cart) (cond k₃ (recut op cart) (cond k₄ (zeros 80) cart))) ≡ true
    unfolding held cart_form
    other_kept h k₂ k₃ k₄ e₂ e₃ =
        let b : byte cart 0 ≡ 1 = eqb-true (byte cart 0) 1 h in
        let f : held_form (u16 op 2) cart ≡ true = sym (cart_held (u16 op 2) cart (λ e. omega arith)) ∙ form in
        pick k₂ k₃ k₄ e₂ e₃ f
      where
        pick : (k₂ k₃ k₄ : Bool) → is_retitle (byte op 0) ≡ k₂ → is_recut (byte op 0) ≡ k₃ → held_form (u16 op 2) cart ≡ true
            → cart_form (u16 op 2) (cond k₂ (retitled op cart) (cond k₃ (recut op cart) (cond k₄ (zeros 80) cart))) ≡ true
        pick true k₃ k₄ e₂ e₃ f = retitled_form (u16 op 2) (title_there fields (rw e₂ (or-true (is_new (byte op 0))))) f
        pick false true k₄ e₂ e₃ f = recut_form (u16 op 2) (audio_there fields (rw e₃ (or-true (is_new (byte op 0))))) f
        pick false false true e₂ e₃ f = rw (zero_zeros 80)
        pick false false false e₂ e₃ f = form

    pub cart_kept : cart_form (u16 op 2) (acted_on op cart) ≡ true
    unfolding acted_on meets_cart effect
    cart_kept = pick (is_new (byte op 0)) (held cart) refl refl
      where
        pick : (n h : Bool) → is_new (byte op 0) ≡ n → held cart ≡ h
            → cart_form (u16 op 2) (cond (cond n (not h) h) (cond n (made op cart) (cond (is_retitle (byte op 0)) (retitled op cart) (cond (is_recut (byte op 0)) (recut op cart) (cond (is_withdraw (byte op 0)) (zeros 80) cart)))) cart) ≡ true
        pick true true e f = form
        pick true false e f = new_kept f e
        pick false true e f = other_kept f (is_retitle (byte op 0)) (is_recut (byte op 0)) (is_withdraw (byte op 0)) refl refl
        pick false false e f = form

-- a copy of its form stays so
pub copy_kept : (copy op : List ℕ) → length copy ≡ 10240 → length op ≡ 80 → operation_fields op ≡ true → copy_form copy ≡ true → copy_form (act copy op) ≡ true
copy_kept copy op l o f e =
    let r = fields_cart op f in
    let named = cart_kept op (cart_at copy (u16 op 2)) o (length_cart copy (u16 op 2) l r.1) f (copy_cart copy (u16 op 2) e r.0 r.1) in
    copy_of (act copy op) (act_each (λ c (s : List ℕ). cart_form c s ≡ true) copy op l o f named (λ c h k. copy_cart copy c e h k))

-- a copy: its length and its form; operations of their form leave one
pub record Copy (copy : List ℕ) : Type 0 where
  pub size : length copy ≡ 10240
  pub form : copy_form copy ≡ true

pub act_all_copy : (copy : List ℕ) (ops : List (List ℕ)) → Copy copy → Operations ops → Copy (act_all copy ops)
act_all_copy copy ops h o = record {
  size = length_act_all ops copy h.size o;
  form = acts_keep (λ (s : List ℕ). copy_form s ≡ true) (λ copy op l w e. copy_kept copy op l w.size w.fields e) ops copy h.size o h.form;
}
