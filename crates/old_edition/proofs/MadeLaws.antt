-- Laws of converted walls: the copy that a file becomes, and the file that a copy becomes.
use Prim.Native.Nat.{ℕ, suc, ◌+◌, ◌*◌, ◌-◌, ◌≤◌, ◌<◌}
use mathlib.Core.Path.{◌≡◌, refl, sym, ap, ◌∙◌}
use mathlib.Core.Bool.{Bool, true, false}
use mathlib.Core.List.{List, [], ◌∷◌, ◌++◌}
use native.Mathlib.Omega.{arith}
use lib.ListN.{length, take, drop, length-drop, take-append-drop}
use lib.Seq.{take-append-le}
use borrow.Author.Tests.{le-ltb, ltb-false, eq-eqb}
use Rattle.carts.specs.Bytes.{zeros, part, byte, any, parts}
use Rattle.carts.specs.Cart.{cart_form, copy_form}
use Rattle.carts.specs.Rows.{row, stopped}
use Rattle.carts.proofs.TestLaws.{all_cons, all_nil, pairwise_eq, pairwise_refl}
use Rattle.carts.proofs.EachLaws.{from_one, to_one, length_parts, parts_at}
use Rattle.carts.proofs.PartLaws.{length_part, part_in, byte_in, u16_in, u32_in}
use Rattle.carts.proofs.RowLaws.{unless_case}
use Rattle.old_edition.specs.OldFile.{mark, old_cart_form, file_form}
use Rattle.old_edition.specs.Convert.{After, after, refused, written, refusal, widened, narrowed, each_cart, copy_of, file_of, long_title, from_old_rows, to_old_rows, from_old, to_old}
use Rattle.old_edition.specs.Promises.{AcceptedFrom, AcceptedTo, SameCart}
use Rattle.old_edition.proofs.OldCartLaws.{widen_narrow, narrow_widen, to_old_form, from_old_form, length_widened, length_narrowed}
use Rattle.old_edition.proofs.EachCartLaws.{length_each, part_each, each_back, any_none, none_at}
use Rattle.old_edition.proofs.ConvertLaws.{FromOld, from_passed, ToOld, to_passed, file_length, file_mark, file_carts}

-- a refusal is no acceptance
pub never : (k n : ℕ) → refused k ≡ written n → ⊥
never k n e = let z : ◌≡◌ {A = ℕ} 0 1 = cc in omega arith

pub from_accepted : (file out : List ℕ) → AcceptedFrom file out → FromOld file out × ((from_old file out).output ≡ copy_of file)
unfolding from_old refusal
from_accepted file out =
    unless_case (λ (a : After). a.answer ≡ written 10240 → FromOld file out × (a.output ≡ copy_of file)) (stopped (from_old_rows file (length out))) (refusal out) (after (written 10240) (copy_of file))
    (λ k e q. absurd (never (suc k) 10240 q)) (λ e q. (from_passed file out e, refl))

pub to_accepted : (copy out : List ℕ) → AcceptedTo copy out → ToOld copy out × ((to_old copy out).output ≡ file_of copy)
unfolding to_old refusal
to_accepted copy out =
    unless_case (λ (a : After). a.answer ≡ written 6150 → ToOld copy out × (a.output ≡ file_of copy)) (stopped (to_old_rows copy (length out))) (refusal out) (after (written 6150) (file_of copy))
    (λ k e q. absurd (never (suc k) 6150 q)) (λ e q. (to_passed copy out e, refl))

-- a whole file, and the copy that it becomes
module _ (file : List ℕ) (form : file_form file ≡ true) where
  pub old_length : length (drop 6 file) ≡ 6144
  old_length = let l = file_length file form in length-drop 6 file ∙ omega arith

  pub old_cart : (i : ℕ) → i < 128 → length (part (drop 6 file) (48 * i) 48) ≡ 48
  old_cart i h = length_part (drop 6 file) (48 * i) 48 (rw old_length (omega arith))

  pub old_form : (c : ℕ) → 1 ≤ c → c ≤ 128 → old_cart_form c (part (drop 6 file) (48 * (c - 1)) 48) ≡ true
  old_form c low high = from_one old_cart_form 48 128 (drop 6 file) (file_carts file form) c low high

  pub made_length : length (copy_of file) ≡ 10240
  unfolding copy_of
  made_length = length_each widened 48 80 length_widened 128 (drop 6 file) old_length

  pub made_cart : (i : ℕ) → i < 128 → part (copy_of file) (80 * i) 80 ≡ widened (part (drop 6 file) (48 * i) 48)
  unfolding copy_of
  made_cart i h = part_each widened 48 80 length_widened 128 (drop 6 file) i old_length h

  pub made_form : copy_form (copy_of file) ≡ true
  unfolding copy_form
  made_form = to_one cart_form 80 128 (copy_of file) (λ c low high. rw (made_cart (c - 1) (omega arith)) (from_old_form c _ (old_cart (c - 1) (omega arith)) (old_form c low high)).0)

  pub made_short : (i : ℕ) → i < 128 → byte (part (copy_of file) (80 * i) 80) 1 ≤ 32
  made_short i h = rw (made_cart i h) (from_old_form (i + 1) _ (old_cart i h) (rw plus at (old_form (i + 1) (omega arith) (omega arith)))).1
    where
      plus : i + 1 - 1 ≡ i
      plus = omega arith

  pub made_back : file_of (copy_of file) ≡ file
  unfolding file_of copy_of
  made_back =
      ap (λ r. mark ++ r) (each_back widened 48 80 length_widened narrowed 128 (drop 6 file) old_length (λ i h. narrow_widen _ (old_cart i h)))
      ∙ ap (λ r. r ++ drop 6 file) (sym (pairwise_eq (take 6 file) mark (file_mark file form)))
      ∙ take-append-drop 6 file

-- no cart of a copy has a long title, by its bytes
pub none_long : (copy : List ℕ) → ((i : ℕ) → i < 128 → byte (part copy (80 * i) 80) 1 ≤ 32) → any long_title (parts 80 128 copy) ≡ false
unfolding long_title
none_long copy short =
    any_none long_title (parts 80 128 copy) [] (λ i h.
    let k : i < 128 = rw length_parts at h in
    rw (parts_at 80 128 copy i k) (le-ltb 32 (byte (part copy (80 * i) 80) 1) (short i k)))

pub short_at : (copy : List ℕ) → any long_title (parts 80 128 copy) ≡ false → (i : ℕ) → i < 128 → byte (part copy (80 * i) 80) 1 ≤ 32
unfolding long_title
short_at copy e i h =
    let k : i < length (parts 80 128 copy) = rw length_parts h in
    ltb-false 32 (byte (part copy (80 * i) 80) 1) (rw (parts_at 80 128 copy i h) at (none_at long_title (parts 80 128 copy) [] i e k))

-- a copy with no long title, and the file that it becomes
module _ (copy out : List ℕ) (k : ToOld copy out) where
  pub our_cart : (i : ℕ) → i < 128 → length (part copy (80 * i) 80) ≡ 80
  our_cart i h = length_part copy (80 * i) 80 (rw k.size (omega arith))

  pub our_form : (c : ℕ) → 1 ≤ c → c ≤ 128 → cart_form c (part copy (80 * (c - 1)) 80) ≡ true
  unfolding copy_form
  our_form c low high = from_one cart_form 80 128 copy k.form c low high

  pub kept_cart : (i : ℕ) → i < 128 → part (each_cart narrowed 80 128 copy) (48 * i) 48 ≡ narrowed (part copy (80 * i) 80)
  kept_cart i h = part_each narrowed 80 48 length_narrowed 128 copy i k.size h

  pub kept_length : length (each_cart narrowed 80 128 copy) ≡ 6144
  kept_length = length_each narrowed 80 48 length_narrowed 128 copy k.size

  pub kept_form : file_form (file_of copy) ≡ true
  unfolding file_form file_of
  kept_form =
      let l = kept_length in
      let size : length (mark ++ each_cart narrowed 80 128 copy) ≡ 6150 = omega arith in
      all_cons _ _ (eq-eqb _ _ size) (all_cons _ _ (pairwise_refl mark) (all_cons _ _
      (to_one old_cart_form 48 128 (each_cart narrowed 80 128 copy) (λ c low high.
      rw (kept_cart (c - 1) (omega arith)) (to_old_form c _ (our_cart (c - 1) (omega arith)) (our_form c low high) (short_at copy k.short (c - 1) (omega arith)))))
      all_nil))

  pub kept_back : copy_of (file_of copy) ≡ copy
  unfolding copy_of file_of
  kept_back =
      each_back narrowed 80 48 length_narrowed widened 128 copy k.size (λ i h.
      let q : i + 1 - 1 ≡ i = omega arith in
      widen_narrow (i + 1) _ (our_cart i h) (rw q at (our_form (i + 1) (omega arith) (omega arith))) (short_at copy k.short i h))

-- a refused conversion changes no byte of the output; from old to ours its number is 22
pub only_22 : (b : Bool) (k : ℕ) → stopped (row 22 b ∷ []) ≡ suc k → suc k ≡ 22
unfolding stopped
only_22 true k e = sym e
only_22 false k e = absurd (omega arith)

-- two carts that agree on 48 bytes, with a title of at most 32 letters
pub same_cart : (a b : List ℕ) → part a 0 48 ≡ part b 0 48 → byte a 1 ≤ 32 → SameCart a b
same_cart a b e h =
    let n : byte a 1 ≡ byte b 1 = byte_in a b 0 48 e 1 (omega arith) (omega arith) in
    record {
      state = byte_in a b 0 48 e 0 (omega arith) (omega arith);
      title_length = n;
      number = u16_in a b 0 48 e 2 (omega arith) (omega arith);
      audio = u32_in a b 0 48 e 4 (omega arith) (omega arith);
      milliseconds = u32_in a b 0 48 e 8 (omega arith) (omega arith);
      letters = part_in a b 0 48 e 16 (byte a 1) (omega arith) (omega arith) ∙ ap (part b 16) n;
    }

pub widened_first : (old : List ℕ) → length old ≡ 48 → part (widened old) 0 48 ≡ part old 0 48
unfolding widened
widened_first old l = take-append-le 48 old (zeros 32) (omega arith)
