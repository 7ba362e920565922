-- Laws of carts and copies.
use Prim.Native.Nat.{ℕ, zero, suc, ◌+◌, ◌-◌, ◌*◌, ◌<◌, ◌≤◌}
use mathlib.Core.Path.{◌≡◌, refl, ap, ◌∙◌}
use mathlib.Core.Bool.{Bool, true, false, cond, not, ◌&&◌, ◌||◌, beq, and_assoc, and-true, and-false, or-false}
use mathlib.Core.List.{List, [], ◌∷◌}
use native.Mathlib.Nat.{add-sub_cancel}
use native.Mathlib.Numerals.{add-one}
use native.Mathlib.Omega.{arith}
use lib.ListN.{length, get_or, take, drop, drop_of_length-le}
use lib.Seq.{drop-cons, take-nil, drop-nil}
use lib.Dec.{ltb, eqb, eqb-suc-zero}
use borrow.Author.Tests.{ltb-true, ltb-false, ne_eqb}
use Rattle.carts.specs.Bytes.{byte, u32, within, every, all_zero, all}
use Rattle.carts.specs.Cart.{cart_at, printable, title_form, no_audio, held, held_form, cart_form}
use Rattle.carts.proofs.FieldLaws.{Head, bytes, by_fields}
use Rattle.carts.proofs.PartLaws.{length_part}

-- a cart of a copy has 80 bytes
pub length_cart : (copy : List ℕ) (c : ℕ) → length copy ≡ 10240 → c ≤ 128 → length (cart_at copy c) ≡ 80
unfolding cart_at
length_cart copy c e h = length_part copy (80 * (c - 1)) 80 (omega arith)

-- a byte is a letter where one is asked for, else zero: it is one of the two, and zero where no letter is asked for
pub title_byte : (b : ℕ) (p asked : Bool) → p ≡ printable b → ((eqb b 0 || p) && not (beq (eqb b 0) asked)) ≡ cond asked (printable b) (eqb b 0)
unfolding printable within
title_byte zero p true e = refl
title_byte zero p false e = refl
title_byte (suc b) p true e = rw eqb-suc-zero (and-true p ∙ e)
title_byte (suc b) p false e = rw eqb-suc-zero (and-false p)

-- m letters, then zeros
abbrev pub letters : ℕ → List ℕ → Bool
letters m t = every printable (take m t) && all_zero (drop m t)

letters_at : (n j x : ℕ) (t : List ℕ) (b : Bool) → ltb j n ≡ b → letters (n - j) (x ∷ t) ≡ (cond b (printable x) (eqb x 0) && letters (n - suc j) t)
unfolding all_zero every
letters_at n j x t true e = let h : j < n = ltb-true j n e in
    let q : n - j ≡ suc (n - suc j) = omega arith in
    rw q (and_assoc (printable x) (every printable (take (n - suc j) t)) (all_zero (drop (n - suc j) t)))
letters_at n j x t false e = let h : n ≤ j = ltb-false j n e in
    let q : n - j ≡ 0 = omega arith in
    let r : n - suc j ≡ 0 = omega arith in
    rw (q, r)

-- the first byte left of a title's field, and the others
pub letters_step : (n j : ℕ) (t : List ℕ) → j < length t → letters (n - j) (drop j t) ≡ (cond (ltb j n) (printable (get_or t j 0)) (eqb (get_or t j 0) 0) && letters (n - (j + 1)) (drop (j + 1) t))
letters_step n j t h = rw (add-one, drop-cons t j 0) (letters_at n j (get_or t j 0) (drop (suc j) t) (ltb j n) refl)

pub letters_end : (n j : ℕ) (t : List ℕ) → length t ≤ j → letters (n - j) (drop j t) ≡ true
unfolding all_zero every
letters_end n j t h = rw (drop_of_length-le t h, take-nil (n - j), drop-nil (n - j))

-- a title of n letters that is asked for, or no title: one test of the letters serves both
pub title_asked : (asked : Bool) (n : ℕ) (t : List ℕ) → cond asked (title_form n t) (all (eqb n 0 ∷ all_zero t ∷ [])) ≡ (cond asked (within 1 64 n) (eqb n 0) && letters n t)
unfolding title_form all every
title_asked true n t = ap (λ b. within 1 64 n && (every printable (take n t) && b)) (and-true (all_zero (drop n t)))
title_asked false zero t = and-true (all_zero t)
title_asked false (suc n) t = rw eqb-suc-zero

-- a number is 0 where each of its bytes is
four_zero : (a b c d : ℕ) (r : Bool) → (eqb a 0 && (eqb b 0 && (eqb c 0 && (eqb d 0 && r)))) ≡ (eqb (a + 256 * b + 65536 * c + 16777216 * d) 0 && r)
four_zero zero zero zero zero r = refl
four_zero (suc a) b c d r = rw (eqb-suc-zero, ne_eqb (suc a + 256 * b + 65536 * c + 16777216 * d) 0 (λ e. omega arith))
four_zero zero (suc b) c d r = rw (eqb-suc-zero, ne_eqb (0 + 256 * suc b + 65536 * c + 16777216 * d) 0 (λ e. omega arith))
four_zero zero zero (suc c) d r = rw (eqb-suc-zero, ne_eqb (0 + 256 * 0 + 65536 * suc c + 16777216 * d) 0 (λ e. omega arith))
four_zero zero zero zero (suc d) r = rw (eqb-suc-zero, ne_eqb (0 + 256 * 0 + 65536 * 0 + 16777216 * suc d) 0 (λ e. omega arith))

-- so audio and length are absent where both are 0
both_zero : (h : Head) (t : List ℕ) → 0 ≤ length t → no_audio (bytes h t) ≡ (eqb (u32 (bytes h t) 4) 0 && eqb (u32 (bytes h t) 8) 0)
unfolding no_audio all_zero every u32
both_zero h t g =
    four_zero h.b4 h.b5 h.b6 h.b7 (eqb h.b8 0 && (eqb h.b9 0 && (eqb h.b10 0 && (eqb h.b11 0 && true))))
    ∙ ap (λ b. eqb (u32 (bytes h t) 4) 0 && b) (four_zero h.b8 h.b9 h.b10 h.b11 true ∙ and-true (eqb (u32 (bytes h t) 8) 0))

pub no_audio_law : (s : List ℕ) → length s ≡ 80 → no_audio s ≡ (eqb (u32 s 4) 0 && eqb (u32 s 8) 0)
no_audio_law s l = by_fields (λ (s : List ℕ). no_audio s ≡ (eqb (u32 s 4) 0 && eqb (u32 s 8) 0)) 0 both_zero s (omega arith)

-- a cart's first byte says which form it must have
pub cart_empty : (c : ℕ) (s : List ℕ) → byte s 0 ≡ 0 → cart_form c s ≡ all_zero s
unfolding cart_form held_form held all
cart_empty c s e = rw e (or-false (all_zero s))

pub cart_held : (c : ℕ) (s : List ℕ) → (byte s 0 ≡ 0 → ⊥) → cart_form c s ≡ held_form c s
unfolding cart_form all_zero every
cart_held c [] h = absurd (h refl)
cart_held c (x ∷ s) h = rw (ne_eqb x 0 h)

-- the cart after the first i
pub cart_next : (copy : List ℕ) (i : ℕ) → cart_at copy (i + 1) ≡ take 80 (drop (80 * i) copy)
unfolding cart_at
cart_next copy i = rw (add-sub_cancel i 1)
