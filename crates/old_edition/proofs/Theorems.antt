-- Document 02, S-10, in its words: what the two conversions promise, of any bytes. The words are specs/Promises.antt.
use Prim.Native.Nat.{ℕ, suc, ◌+◌, ◌*◌, ◌-◌, ◌≤◌, ◌<◌}
use mathlib.Core.Path.{◌≡◌, refl, sym, ap, ◌∙◌}
use mathlib.Core.Bool.{true, false}
use mathlib.Core.List.{List, []}
use native.Mathlib.Omega.{arith}
use lib.ListN.{length, take, drop, get_or}
use borrow.Author.Tests.{lt-ltb}
use Rattle.carts.specs.Bytes.{part, byte, any, parts}
use Rattle.carts.specs.Cart.{cart_at, copy_form}
use Rattle.carts.specs.Rows.{stopped}
use Rattle.carts.proofs.TestLaws.{any_at}
use Rattle.carts.proofs.EachLaws.{length_parts, parts_at}
use Rattle.carts.proofs.PartLaws.{part_take}
use Rattle.carts.proofs.RowLaws.{row_stops, row_passes, unless_case}
use Rattle.old_edition.specs.OldFile.{file_form}
use Rattle.old_edition.specs.Convert.{After, after, refused, written, refusal, widened, narrowed, copy_of, file_of, long_title, from_old_rows, to_old_rows, from_old, to_old}
use Rattle.old_edition.specs.Promises.{AcceptedFrom, AcceptedTo, SameCart}
use Rattle.old_edition.proofs.OldCartLaws.{from_old_form, widened_byte}
use Rattle.old_edition.proofs.ConvertLaws.{passes_from, title_row, accepted_by, refused_by}
use Rattle.old_edition.proofs.MadeLaws.{never, only_22, from_accepted, to_accepted, none_long, short_at, old_cart, old_form, made_length, made_cart, made_form, made_short, made_back, kept_cart, kept_form, kept_back, same_cart, widened_first}

-- of a copy of the layout and an output of its length: "Ours to old refuses a longer title", and nothing else
module _ (copy out : List ℕ) (size : length copy ≡ 10240) (form : copy_form copy ≡ true) (room : length out ≡ 6150) where
  pub long_refused : (c : ℕ) → 1 ≤ c → c ≤ 128 → 32 < byte (cart_at copy c) 1 → to_old copy out ≡ after (refused 23) out
  unfolding to_old cart_at long_title
  long_refused c low high long =
      let k : c - 1 < length (parts 80 128 copy) = rw length_parts (omega arith) in
      let p : long_title (get_or (parts 80 128 copy) (c - 1) []) ≡ true = rw (parts_at 80 128 copy (c - 1) (omega arith)) (lt-ltb 32 _ long) in
      let e : any long_title (parts 80 128 copy) ≡ true = any_at long_title (parts 80 128 copy) [] (c - 1) k p in
      sym (refused_by _ 23 out _ (row_stops 23 _ [] e ∙ sym (title_row copy (length out) size form room)) (λ z. omega arith))

  pub short_accepted : ((c : ℕ) → 1 ≤ c → c ≤ 128 → byte (cart_at copy c) 1 ≤ 32) → to_old copy out ≡ after (written 6150) (file_of copy)
  unfolding to_old cart_at stopped
  short_accepted short =
      let e : any long_title (parts 80 128 copy) ≡ false = none_long copy (λ i h. let q : i + 1 - 1 ≡ i = omega arith in rw q at (short (i + 1) (omega arith) (omega arith))) in
      sym (accepted_by _ 0 out _ (sym (title_row copy (length out) size form room ∙ row_passes 23 _ [] e)) refl)

-- "Old to ours and back yields the same file", and is never refused
pub there_and_back : (file out room : List ℕ) → AcceptedFrom file out → length room ≡ 6150 → to_old (from_old file out).output room ≡ after (written 6150) file
unfolding cart_at
there_and_back file out room a l =
    let k = from_accepted file out a in
    let form = k.0.form in
    rw k.1 (short_accepted (copy_of file) room (made_length file form) (made_form file form) l (λ c low high. made_short file form (c - 1) (omega arith))
    ∙ ap (after (written 6150)) (made_back file form))

-- "ours to old, where accepted, and back yields the same copy"
pub back_and_there : (copy out room : List ℕ) → AcceptedTo copy out → length room ≡ 10240 → from_old (to_old copy out).output room ≡ after (written 10240) copy
unfolding from_old
back_and_there copy out room a l =
    let k = to_accepted copy out a in
    let form = kept_form copy out k.0 in
    rw k.1 (sym (accepted_by _ 0 room _ (passes_from (file_of copy) (length room) form l) refl) ∙ ap (after (written 10240)) (kept_back copy out k.0))

-- what is converted is of the layout
pub copy_of_layout : (file out : List ℕ) → AcceptedFrom file out → (length (from_old file out).output ≡ 10240) × (copy_form (from_old file out).output ≡ true)
copy_of_layout file out a = let k = from_accepted file out a in rw k.1 (made_length file k.0.form, made_form file k.0.form)

pub file_of_form : (copy out : List ℕ) → AcceptedTo copy out → file_form (to_old copy out).output ≡ true
file_of_form copy out a = let k = to_accepted copy out a in rw k.1 (kept_form copy out k.0)

-- a refused conversion changes no byte of the output; from old to ours its number is 22
pub from_refused : (file out : List ℕ) (n : ℕ) → (from_old file out).answer ≡ refused n → (n ≡ 22) × ((from_old file out).output ≡ out)
unfolding from_old refusal from_old_rows
from_refused file out n =
    unless_case (λ (a : After). a.answer ≡ refused n → (n ≡ 22) × (a.output ≡ out)) (stopped (from_old_rows file (length out))) (refusal out) (after (written 10240) (copy_of file))
    (λ k e q. let m : n ≡ suc k = cc in (m ∙ only_22 _ k e, refl)) (λ e q. absurd (never n 10240 (sym q)))

pub to_refused : (copy out : List ℕ) (n : ℕ) → (to_old copy out).answer ≡ refused n → (to_old copy out).output ≡ out
unfolding to_old refusal
to_refused copy out n =
    unless_case (λ (a : After). a.answer ≡ refused n → a.output ≡ out) (stopped (to_old_rows copy (length out))) (refusal out) (after (written 6150) (file_of copy))
    (λ k e q. refl) (λ e q. absurd (never n 6150 (sym q)))

-- "Each cart keeps its place, audio, length and title"
pub keeps_from : (file out : List ℕ) → AcceptedFrom file out → (c : ℕ) → 1 ≤ c → c ≤ 128 → SameCart (part (drop 6 file) (48 * (c - 1)) 48) (cart_at (from_old file out).output c)
unfolding cart_at
keeps_from file out a c low high =
    let k = from_accepted file out a in
    let form = k.0.form in
    let i : c - 1 < 128 = omega arith in
    let old : List ℕ = part (drop 6 file) (48 * (c - 1)) 48 in
    let l : length old ≡ 48 = old_cart file form (c - 1) i in
    let short : byte old 1 ≤ 32 = rw (widened_byte old l) at (from_old_form c old l (old_form file form c low high)).1 in
    rw (k.1, made_cart file form (c - 1) i) (same_cart old (widened old) (sym (widened_first old l)) short)

pub keeps_to : (copy out : List ℕ) → AcceptedTo copy out → (c : ℕ) → 1 ≤ c → c ≤ 128 → SameCart (cart_at copy c) (part (drop 6 (to_old copy out).output) (48 * (c - 1)) 48)
unfolding cart_at file_of narrowed
keeps_to copy out a c low high =
    let k = to_accepted copy out a in
    let i : c - 1 < 128 = omega arith in
    let cart : List ℕ = part copy (80 * (c - 1)) 80 in
    rw (k.1, kept_cart copy out k.0 (c - 1) i) (same_cart cart (take 48 cart) (sym (part_take cart 48 0 48 (omega arith))) (short_at copy k.0.short (c - 1) i))
