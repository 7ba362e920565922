-- Laws of what comes of an input: it is what the converter answers, and a cart that is named is one of 128.
use Prim.Native.Nat.{ℕ, ◌≤◌}
use mathlib.Core.Path.{◌≡◌, refl, ap}
use mathlib.Core.Bool.{Bool, true, false, cond, not, ◌&&◌}
use mathlib.Core.List.{List}
use native.Mathlib.Omega.{arith}
use lib.Dec.{eqb}
use lib.ListN.{length}
use borrow.Author.Tests.{eqb-true}
use Rattle.std.specs.Prelude.{Option, Some, None, Result, Ok, Err}
use Rattle.carts.specs.Bytes.{byte, all}
use Rattle.carts.specs.Cart.{cart_at, cart_form, copy_form}
use Rattle.carts.specs.Rows.{stopped, unless}
use Rattle.old_edition.specs.OldFile.{old_carts, old_cart_form, file_form}
use Rattle.old_edition.specs.Convert.{Answer, After, written, after, refusal, long_title, from_old_rows, to_old_rows, from_old, to_old, copy_of, file_of}
use Rattle.convert.specs.declared.fault.Rule.TheVariants.{OldForm, Form, ShortTitle}
use Rattle.convert.specs.declared.outcome.Made.{Made}
use Rattle.convert.specs.declared.outcome.Made.TheVariants.{Copy, OldFile}
use Rattle.convert.specs.declared.outcome.Fault.{Fault}
use Rattle.convert.specs.declared.outcome.Fault.TheVariants.{OtherLength, NoWall, OldCart, Cart, LongTitle}
use Rattle.convert.specs.Fault.{keeps, fault_by}
use Rattle.convert.specs.Held.{held_in}
use Rattle.convert.specs.Outcome.{marked, file_outcome, copy_outcome, unless_fault, outcome_of, answer_of, Converted}
use Rattle.convert.proofs.FaultLaws.{is_none, fault_found, fault_named, any_each}

-- by the tests: an old file's length and its carts
file_answers : (sized : Bool) (fault : Option ℕ) (held size : ℕ) (out made : List ℕ)
    → answer_of (cond sized (unless_fault fault OldCart (Ok (Copy held))) (Err (OtherLength size)))
    ≡ (unless (cond (not ((sized && (is_none fault && true)) && true)) 22 0) (refusal out) (after (written 10240) made)).answer
unfolding unless refusal
file_answers true None held size out made = refl
file_answers true (Some c) held size out made = refl
file_answers false fault held size out made = refl

pub file_answer : (file out : List ℕ) → marked file ≡ true → length out ≡ 10240 → answer_of (file_outcome file) ≡ (from_old file out).answer
unfolding marked file_outcome from_old from_old_rows stopped all file_form
file_answer file out b l =
    rw (l, b, fault_found old_cart_form 48 128 1 (old_carts file))
    (file_answers (eqb (length file) 6150) (fault_by OldForm (old_carts file)) (held_in 48 128 (old_carts file)) (length file) out (copy_of file))

-- and a copy's length, its carts and its titles
copy_answers : (sized : Bool) (fault long : Option ℕ) (letters : ℕ → ℕ) (held size : ℕ) (out made : List ℕ)
    → answer_of (cond sized (unless_fault fault Cart (unless_fault long (λ c. LongTitle c (letters c)) (Ok (OldFile held)))) (Err (NoWall size)))
    ≡ (unless (cond (not (sized && (is_none fault && true))) 22 (cond (not (is_none long)) 23 0)) (refusal out) (after (written 6150) made)).answer
unfolding unless refusal
copy_answers true None None letters held size out made = refl
copy_answers true None (Some c) letters held size out made = refl
copy_answers true (Some c) long letters held size out made = refl
copy_answers false fault long letters held size out made = refl

pub copy_answer : (copy out : List ℕ) → length out ≡ 6150 → answer_of (copy_outcome copy) ≡ (to_old copy out).answer
unfolding copy_outcome to_old to_old_rows stopped all copy_form
copy_answer copy out l =
    rw (l, fault_found cart_form 80 128 1 copy, any_each long_title 80 128 1 copy, fault_found (keeps ShortTitle) 80 128 1 copy)
    (copy_answers (eqb (length copy) 10240) (fault_by Form copy) (fault_by ShortTitle copy) (λ c. byte (cart_at copy c) 1) (held_in 80 128 copy) (length copy) out (file_of copy))

-- no old file has a long title
file_untitled : (sized : Bool) (fault : Option ℕ) (held size c n : ℕ) → cond sized (unless_fault fault OldCart (Ok (Copy held))) (Err (OtherLength size)) ≡ Err (LongTitle c n) → ⊥
file_untitled true None held size c n e = let z : ◌≡◌ {A = ℕ} 0 1 = cc in omega arith
file_untitled true (Some k) held size c n e = let z : ◌≡◌ {A = ℕ} 0 1 = cc in omega arith
file_untitled false fault held size c n e = let z : ◌≡◌ {A = ℕ} 0 1 = cc in omega arith

-- a cart with a long title is one of a copy's 128
pub title_named : (input : List ℕ) {c n : ℕ} → outcome_of input ≡ Err (LongTitle c n) → (length input ≡ 10240) × ((1 ≤ c) × (c ≤ 128))
unfolding outcome_of file_outcome copy_outcome
title_named input {c} {n} = pick (marked input) (eqb (length input) 10240) (fault_by Form input) (fault_by ShortTitle input) refl refl
  where
    pick : (old sized : Bool) (fault long : Option ℕ) → eqb (length input) 10240 ≡ sized → fault_by ShortTitle input ≡ long
        → cond old (file_outcome input) (cond sized (unless_fault fault Cart (unless_fault long (λ k. LongTitle k (byte (cart_at input k) 1)) (Ok (OldFile (held_in 80 128 input))))) (Err (NoWall (length input)))) ≡ Err (LongTitle c n)
        → (length input ≡ 10240) × ((1 ≤ c) × (c ≤ 128))
    pick true sized fault long s t e = absurd (file_untitled (eqb (length input) 6150) (fault_by OldForm (old_carts input)) (held_in 48 128 (old_carts input)) (length input) c n e)
    pick false true None (Some k) s t e =
        let same : k ≡ c = cc in
        let m = fault_named (keeps ShortTitle) 80 128 1 k input t in
        (eqb-true (length input) 10240 s, (omega arith, omega arith))
    pick false true None None s t e = let z : ◌≡◌ {A = ℕ} 0 1 = cc in absurd (omega arith)
    pick false true (Some k) long s t e = let z : ◌≡◌ {A = ℕ} 0 1 = cc in absurd (omega arith)
    pick false false fault long s t e = let z : ◌≡◌ {A = ℕ} 0 1 = cc in absurd (omega arith)

-- an input that the converter took as an old file, and one that it took as a copy
pub converted_file : (input copy copy' file : List ℕ) (a : Answer) {r : Result Made Fault} → marked input ≡ true → length copy ≡ 10240
    → after a copy' ≡ from_old input copy → r ≡ file_outcome input → Converted input copy copy' file file r
unfolding outcome_of
converted_file input copy copy' file a b l f e = record {
  outcome = rw b e;
  answer = rw (b, e) (file_answer input copy b l);
  copy_left = rw b (ap (λ (x : After). x.output) f);
  file_left = rw b refl;
}

pub converted_copy : (input copy file file' : List ℕ) (a : Answer) {r : Result Made Fault} → marked input ≡ false → length file ≡ 6150
    → after a file' ≡ to_old input file → r ≡ copy_outcome input → Converted input copy copy file file' r
unfolding outcome_of
converted_copy input copy file file' a b l f e = record {
  outcome = rw b e;
  answer = rw (b, e) (copy_answer input file l);
  copy_left = rw b refl;
  file_left = rw b (ap (λ (x : After). x.output) f);
}
