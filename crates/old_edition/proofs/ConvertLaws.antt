-- Laws of the two conversions: what stops them, and what they leave.
use Prim.Native.Nat.{ℕ, zero, suc}
use mathlib.Core.Path.{◌≡◌, refl, sym, ap, ◌∙◌}
use mathlib.Core.Bool.{Bool, true, false, not, ◌&&◌, and-true}
use mathlib.Core.List.{List, [], ◌∷◌}
use lib.Dec.{eqb, eqb-zero-suc, eqb-suc-zero, eqb-suc-suc}
use lib.Pointwise.{pointwise}
use lib.ListN.{length, take, drop, get_or}
use borrow.Author.Tests.{eq-eqb, ne_eqb, eqb-true, not-false}
use Rattle.carts.specs.Bytes.{all, any, pairwise, each_part, parts}
use Rattle.carts.specs.Cart.{copy_form}
use Rattle.carts.specs.Rows.{Row, row, stopped, unless}
use Rattle.carts.proofs.TestLaws.{all_at, all_fails, all_nil, all_cons}
use Rattle.carts.proofs.RowLaws.{row_stops, row_passes, passed, unless_stopped, unless_accepted}
use Rattle.old_edition.specs.OldFile.{mark, old_cart_form, file_form}
use Rattle.old_edition.specs.Convert.{After, after, refused, refusal, long_title, from_old_rows, to_old_rows}

-- the library's comparison takes the two lists the other way round
eqb-sym : (a b : ℕ) → eqb a b ≡ eqb b a
eqb-sym zero zero = refl
eqb-sym zero (suc b) = eqb-zero-suc b ∙ sym (eqb-suc-zero b)
eqb-sym (suc a) zero = eqb-suc-zero a ∙ sym (eqb-zero-suc a)
eqb-sym (suc a) (suc b) = eqb-suc-suc a b ∙ eqb-sym a b ∙ sym (eqb-suc-suc b a)

pub begins_with : (xs ys : List ℕ) → pointwise eqb xs ys ≡ pairwise eqb ys xs
unfolding pairwise
begins_with [] [] = refl
begins_with [] (y ∷ ys) = refl
begins_with (x ∷ xs) [] = refl
begins_with (x ∷ xs) (y ∷ ys) = rw (eqb-sym x y, begins_with xs ys)

-- row 22: one of its tests fails, or all of them pass
pub form_fails : (n : ℕ) (bs : List Bool) (rs : List Row) → get_or bs n true ≡ false → 22 ≡ stopped (row 22 (not (all bs)) ∷ rs)
form_fails n bs rs e = row_stops 22 (not (all bs)) rs (ap not (all_fails n bs e))

pub form_passes : (bs : List Bool) (rs : List Row) → all bs ≡ true → stopped (row 22 (not (all bs)) ∷ rs) ≡ stopped rs
form_passes bs rs e = row_passes 22 (not (all bs)) rs (ap not e)

-- and back
form_passed : (bs : List Bool) (rs : List Row) → stopped (row 22 (not (all bs)) ∷ rs) ≡ 0 → (all bs ≡ true) × (stopped rs ≡ 0)
form_passed bs rs e = let p = passed 21 (not (all bs)) rs e in (not-false (all bs) p.0, p.1)

-- a conversion that is refused, and one that is accepted
pub refused_by : (stop n : ℕ) (out : List ℕ) (x : After) → n ≡ stop → (n ≡ 0 → ⊥) → after (refused n) out ≡ unless stop (refusal out) x
unfolding refusal
refused_by stop n out x e h = rw (← e) (unless_stopped n (refusal out) x h)

pub accepted_by : (stop n : ℕ) (out : List ℕ) (x : After) → n ≡ stop → n ≡ 0 → x ≡ unless stop (refusal out) x
accepted_by stop n out x e z = unless_accepted stop (refusal out) x (sym e ∙ z)

-- the tests of a file
file_tests : List ℕ → List Bool
file_tests file = eqb (length file) 6150 ∷ pairwise eqb (take 6 file) mark ∷ each_part old_cart_form 48 128 1 (drop 6 file) ∷ []

pub file_length : (file : List ℕ) → file_form file ≡ true → length file ≡ 6150
unfolding file_form file_tests
file_length file e = eqb-true _ _ (all_at 0 (file_tests file) e)

pub file_mark : (file : List ℕ) → file_form file ≡ true → pairwise eqb (take 6 file) mark ≡ true
unfolding file_form file_tests
file_mark file e = all_at 1 (file_tests file) e

pub file_carts : (file : List ℕ) → file_form file ≡ true → each_part old_cart_form 48 128 1 (drop 6 file) ≡ true
unfolding file_form file_tests
file_carts file e = all_at 2 (file_tests file) e

pub file_short : (file : List ℕ) → (length file ≡ 6150 → ⊥) → false ≡ file_form file
unfolding file_form file_tests
file_short file h = sym (all_fails 0 (file_tests file) (ne_eqb _ _ h))

pub file_whole : (file : List ℕ) (a b : Bool) → length file ≡ 6150 → a ≡ pairwise eqb (take 6 file) mark → b ≡ each_part old_cart_form 48 128 1 (drop 6 file) → (a && b) ≡ file_form file
unfolding file_form all
file_whole file a b l e f = rw (eq-eqb _ _ l, e, f, and-true)

-- from old to ours: what is known where nothing stops it
pub record FromOld (file out : List ℕ) : Type 0 where
  pub form : file_form file ≡ true
  pub room : length out ≡ 10240

pub from_passed : (file out : List ℕ) → stopped (from_old_rows file (length out)) ≡ 0 → FromOld file out
unfolding from_old_rows
from_passed file out e =
    let p = (form_passed (file_form file ∷ eqb (length out) 10240 ∷ []) [] e).0 in
    record { form = all_at 0 (file_form file ∷ eqb (length out) 10240 ∷ []) p; room = eqb-true _ _ (all_at 1 (file_form file ∷ eqb (length out) 10240 ∷ []) p) }

pub passes_from : (file : List ℕ) (room : ℕ) → file_form file ≡ true → room ≡ 10240 → 0 ≡ stopped (from_old_rows file room)
unfolding from_old_rows stopped all
passes_from file room e h = rw (e, eq-eqb room 10240 h)

-- from ours to old
pub record ToOld (copy out : List ℕ) : Type 0 where
  pub size : length copy ≡ 10240
  pub form : copy_form copy ≡ true
  pub room : length out ≡ 6150
  pub short : any long_title (parts 80 128 copy) ≡ false

pub to_passed : (copy out : List ℕ) → stopped (to_old_rows copy (length out)) ≡ 0 → ToOld copy out
unfolding to_old_rows
to_passed copy out e =
    let tests : List Bool = eqb (length copy) 10240 ∷ copy_form copy ∷ eqb (length out) 6150 ∷ [] in
    let p = form_passed tests (row 23 (any long_title (parts 80 128 copy)) ∷ []) e in
    record {
      size = eqb-true _ _ (all_at 0 tests p.0);
      form = all_at 1 tests p.0;
      room = eqb-true _ _ (all_at 2 tests p.0);
      short = (passed 22 (any long_title (parts 80 128 copy)) [] p.1).0;
    }

-- row 23 decides where all of 22 passes
pub title_row : (copy : List ℕ) (room : ℕ) → length copy ≡ 10240 → copy_form copy ≡ true → room ≡ 6150 → stopped (to_old_rows copy room) ≡ stopped (row 23 (any long_title (parts 80 128 copy)) ∷ [])
unfolding to_old_rows
title_row copy room l e h =
    form_passes (eqb (length copy) 10240 ∷ copy_form copy ∷ eqb room 6150 ∷ []) (row 23 (any long_title (parts 80 128 copy)) ∷ [])
    (all_cons _ _ (eq-eqb _ _ l) (all_cons _ _ e (all_cons _ _ (eq-eqb _ _ h) all_nil)))
