-- Laws of text: runs, numbers in base ten, texts of different lengths.
use Prim.Native.Nat.{ℕ, suc, ◌+◌, ◌*◌, ◌-◌, ◌<◌, ◌≤◌}
use mathlib.Core.Path.{◌≡◌, refl, ap}
use mathlib.Core.Bool.{Bool, true, false, cond, and-false}
use mathlib.Core.List.{List, [], ◌∷◌}
use native.Mathlib.Numerals.{add-one}
use native.Mathlib.Omega.{arith}
use lib.ListN.{length, get_or, drop, drop_of_length-le}
use lib.Seq.{drop-cons}
use Rattle.std.specs.Prelude.{Ok, Err, eqb}
use Rattle.std.proofs.Common.{nat_eq}
use Rattle.std.specs.Cmp.Lexicographic.{pointwise}
use borrow.Author.Tests.{leb-true, le-leb, lt-leb}
use lib.Dec.{leb}
use Rattle.carts.specs.Bytes.{pairwise}
use Rattle.lines.specs.declared.text.NumberError.TheVariants.{Missing, TooLarge}
use Rattle.lines.specs.declared.text.Class.{Class}
use Rattle.lines.specs.Text.{in_class, run_length, numeral, number_of}

-- texts of different lengths differ
pub unlike : (r : ℕ → ℕ → Bool) (a b : List ℕ) → (length a ≡ length b → ⊥) → pairwise r a b ≡ false
unfolding pairwise
unlike r [] [] h = absurd (h refl)
unlike r [] (y ∷ b) h = refl
unlike r (x ∷ a) [] h = refl
unlike r (x ∷ a) (y ∷ b) h = rw (unlike r a b (λ e. h (ap suc e))) (and-false (r x y))

-- the library's test of two texts
pub same_pairs : (a b : List ℕ) → pointwise nat_eq a b ≡ pairwise eqb a b
unfolding pairwise
same_pairs [] [] = refl
same_pairs [] (y ∷ b) = refl
same_pairs (x ∷ a) [] = refl
same_pairs (x ∷ a) (y ∷ b) = rw (same_pairs a b)

-- a turn of the loop along a run, and its two ends
pub run_more : (class : Class) (s : List ℕ) (i : ℕ) → i < length s → in_class class (get_or s i 0) ≡ true → i + run_length class (drop i s) ≡ i + 1 + run_length class (drop (i + 1) s)
unfolding run_length
run_more class s i h e = rw (add-one, drop-cons s i 0, e) (omega arith)

pub run_stops : (class : Class) (s : List ℕ) (i : ℕ) → i < length s → in_class class (get_or s i 0) ≡ false → i + run_length class (drop i s) ≡ i
unfolding run_length
run_stops class s i h e = rw (drop-cons s i 0, e) (omega arith)

pub run_ends : (class : Class) (s : List ℕ) (i : ℕ) → length s ≤ i → i + run_length class (drop i s) ≡ i
unfolding run_length
run_ends class s i h = rw (drop_of_length-le s h) (omega arith)

-- a number does not fall as digits are added
numeral_up : (v : ℕ) (ds : List ℕ) → v ≤ numeral v ds
unfolding numeral
numeral_up v [] = omega arith
numeral_up v (d ∷ ds) = let h = numeral_up (10 * v + (d - 48)) ds in omega arith

-- a turn of the loop that reads digits, and its end
pub numeral_more : (ds : List ℕ) (i v : ℕ) → i < length ds → numeral v (drop i ds) ≡ numeral (10 * v + (get_or ds i 0 - 48)) (drop (i + 1) ds)
unfolding numeral
numeral_more ds i v h = rw (add-one, drop-cons ds i 0)

pub numeral_end : (ds : List ℕ) (i v : ℕ) → length ds ≤ i → numeral v (drop i ds) ≡ v
unfolding numeral
numeral_end ds i v h = rw (drop_of_length-le ds h)

-- what is said of digits
pub number_none : (most : ℕ) (ds : List ℕ) → length ds ≡ 0 → Err Missing ≡ number_of most ds
unfolding number_of
number_none most [] e = refl
number_none most (d ∷ ds) e = absurd (omega arith)

pub number_fits : (most v : ℕ) (ds : List ℕ) → (length ds ≡ 0 → ⊥) → numeral 0 ds ≡ v → v ≤ most → Ok v ≡ number_of most ds
unfolding number_of
number_fits most v [] n e h = absurd (n refl)
number_fits most v (d ∷ ds) n e h = rw (e, le-leb v most h)

pub number_large : (most v : ℕ) (ds rest : List ℕ) → (length ds ≡ 0 → ⊥) → numeral 0 ds ≡ numeral v rest → most < v → Err TooLarge ≡ number_of most ds
unfolding number_of
number_large most v [] rest n e h = absurd (n refl)
number_large most v (d ∷ ds) rest n e h =
    let u = numeral_up v rest in
    let l : most < numeral v rest = omega arith in
    rw (e, lt-leb (numeral v rest) most l)

value_at_most : (b : Bool) (n v most : ℕ) → (b ≡ true → n ≤ most) → cond b (Ok n) (Err TooLarge) ≡ Ok v → v ≤ most
value_at_most true n v most h e = let z : n ≡ v = cc in let l = h refl in omega arith
value_at_most false n v most h e = let z : ◌≡◌ {A = ℕ} 0 1 = cc in absurd (omega arith)

-- a value that is read is at most its bound
pub number_at_most : (most v : ℕ) (ds : List ℕ) → number_of most ds ≡ Ok v → v ≤ most
unfolding number_of
number_at_most most v [] e = let z : ◌≡◌ {A = ℕ} 0 1 = cc in absurd (omega arith)
number_at_most most v (d ∷ ds) e = let n = numeral 0 (d ∷ ds) in value_at_most (leb n most) n v most (leb-true n most) e
