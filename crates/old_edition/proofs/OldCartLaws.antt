-- Laws of old carts: laid out as ours, they are ours with 32 zeros more.
use Prim.Native.Nat.{ℕ, ◌+◌, ◌-◌, ◌≤◌}
use mathlib.Core.Path.{◌≡◌, refl, sym, ap, ◌∙◌}
use mathlib.Core.Bool.{Bool, true, false, ◌&&◌, ◌||◌, and-true, and-false, or-false}
use mathlib.Core.List.{List, [], ◌∷◌, ◌++◌}
use native.Mathlib.Omega.{arith}
use lib.Dec.{leb, eqb}
use lib.ListN.{length, take, drop, length-append, length-drop, take-append-drop, get_or-append}
use lib.Seq.{take_all, take-append-le, drop-append-le, take_at, drop-drop, get_or-take, length-take-le}
use borrow.Author.Tests.{leb-true, le-leb, ne_eqb}
use Rattle.carts.specs.Bytes.{zeros, part, byte, u16, u32, within, all, every, all_zero}
use Rattle.carts.specs.Cart.{printable, title_in, title_form, has_title, has_audio, held, held_form, cart_form}
use Rattle.carts.proofs.TestLaws.{and_left, and_right, all_at, all_fails}
use Rattle.carts.proofs.ZeroLaws.{length_zeros, zero_zeros, zero_first, zeros_of, zero_drop}
use Rattle.carts.proofs.FieldLaws.{Head, bytes, by_fields}
use Rattle.carts.proofs.PartLaws.{drop_later}
use Rattle.old_edition.specs.OldFile.{has_old_title, old_held_form, old_cart_form}
use Rattle.old_edition.specs.Convert.{widened, narrowed}

-- zeros after a list are zero
zero_more : (s : List ℕ) (n : ℕ) → all_zero (s ++ zeros n) ≡ all_zero s
unfolding all_zero every
zero_more [] n = zero_zeros n
zero_more (x ∷ s) n = ap (λ b. eqb x 0 && b) (zero_more s n)

-- a title of at most 32 letters in a field of 32, and the same in one of 64
wide_title : (n : ℕ) (t : List ℕ) → length t ≡ 32 → title_in 32 n t ≡ (leb n 32 && title_in 64 n (t ++ zeros 32))
unfolding within all
wide_title n t l = go (leb n 32) refl
  where
    go : (b : Bool) → leb n 32 ≡ b → title_in 32 n t ≡ (b && title_in 64 n (t ++ zeros 32))
    go true e =
        let h : n ≤ 32 = leb-true n 32 e in
        let k : n ≤ length t = omega arith in
        rw (e, le-leb n 64 (omega arith), take-append-le n t (zeros 32) k, drop-append-le n t (zeros 32) k, zero_more (drop n t) 32)
    go false e = rw (e, and-false (leb 1 n))

-- an empty cart has no long title
empty_short : (h : Head) (t : List ℕ) → all_zero (bytes h t) ≡ true → leb h.b1 32 ≡ true
empty_short h t e =
    let z : h.b1 ≡ 0 = (zero_first h.b1 _ (zero_first h.b0 _ e).1).0 in
    rw z

-- two tests, one of them with a further condition on its third part
joined : (z a b t d e l : Bool) → (z ≡ true → l ≡ true) → (z || all (a ∷ b ∷ (l && t) ∷ d ∷ e ∷ [])) ≡ ((z || all (a ∷ b ∷ t ∷ d ∷ e ∷ [])) && l)
joined z a b t d e true f = sym (and-true (z || all (a ∷ b ∷ t ∷ d ∷ e ∷ [])))
joined true a b t d e false f = sym (f refl)
joined false a b t d e false f = all_fails 2 (a ∷ b ∷ false ∷ d ∷ e ∷ []) refl ∙ sym (and-false (all (a ∷ b ∷ t ∷ d ∷ e ∷ [])))

-- the tests of a title and of the audio, as the code joins them
pub old_title : (n : ℕ) (t : List ℕ) (ok : Bool) → ok ≡ (every printable (take n t) && all_zero (drop n t)) → ((leb 1 n && leb n 32) && ok) ≡ title_in 32 n t
unfolding within all
old_title n t ok e = rw (e, and-true (all_zero (drop n t)))

pub old_audio : (s : List ℕ) → (leb 1 (u32 s 4) && leb 1 (u32 s 8)) ≡ has_audio s
unfolding has_audio all
old_audio s = rw (and-true (leb 1 (u32 s 8)))

-- an old cart's first byte says which form it must have
pub old_empty : (c : ℕ) (s : List ℕ) → byte s 0 ≡ 0 → old_cart_form c s ≡ all_zero s
unfolding old_cart_form old_held_form held all
old_empty c s e = rw e (or-false (all_zero s))

pub old_held : (c : ℕ) (s : List ℕ) → (byte s 0 ≡ 0 → ⊥) → old_cart_form c s ≡ old_held_form c s
unfolding old_cart_form all_zero every
old_held c [] h = absurd (h refl)
old_held c (x ∷ s) h = rw (ne_eqb x 0 h)

laid_out_head : (c : ℕ) (h : Head) (t : List ℕ) → length t ≡ 32 → old_cart_form c (bytes h t) ≡ (cart_form c (bytes h t ++ zeros 32) && leb h.b1 32)
unfolding old_cart_form old_held_form has_old_title cart_form held_form has_title title_form held has_audio u16 u32
laid_out_head c h t l =
    let w : length (t ++ zeros 32) ≤ 64 = rw (length-append, length_zeros) (omega arith) in
    rw (take_all 32 t (omega arith), take_all 64 (t ++ zeros 32) w, wide_title h.b1 t l, zero_more (bytes h t) 32)
    (joined (all_zero (bytes h t)) _ _ (title_in 64 h.b1 (t ++ zeros 32)) _ _ (leb h.b1 32) (empty_short h t))

-- "laid out as ours .. and a title length of 1 to 32"
pub laid_out : (c : ℕ) (old : List ℕ) → length old ≡ 48 → old_cart_form c old ≡ (cart_form c (widened old) && leb (byte old 1) 32)
unfolding widened
laid_out c old l =
    by_fields (λ (s : List ℕ). length s ≡ 48 → old_cart_form c s ≡ (cart_form c (s ++ zeros 32) && leb (byte s 1) 32)) 32
    (λ h t g e. laid_out_head c h t (omega arith)) old (omega arith) l

-- a cart of ours with a title of at most 32 letters ends with 32 zeros
tail_zero : (c : ℕ) (x : List ℕ) → length x ≡ 80 → cart_form c x ≡ true → byte x 1 ≤ 32 → all_zero (drop 48 x) ≡ true
unfolding cart_form held_form has_title title_form
tail_zero c x l e h = go (all_zero x) refl e
  where
    go : (b : Bool) → all_zero x ≡ b → (b || held_form c x) ≡ true → all_zero (drop 48 x) ≡ true
    go true z f = zero_drop 48 x z
    go false z f =
        let n : ℕ = byte x 1 in
        let t : title_in 64 n (part x 16 64) ≡ true = all_at 2 _ f in
        let k : all_zero (drop n (part x 16 64)) ≡ true = all_at 2 _ t in
        let w : length (drop 16 x) ≤ 64 = rw length-drop (omega arith) in
        let d : drop n (part x 16 64) ≡ drop (16 + n) x = ap (drop n) (take_all 64 (drop 16 x) w) ∙ drop-drop n 16 x in
        rw (drop_later x (16 + n) 48 (omega arith)) (zero_drop (48 - (16 + n)) (drop (16 + n) x) (rw d at k))

pub widen_narrow : (c : ℕ) (x : List ℕ) → length x ≡ 80 → cart_form c x ≡ true → byte x 1 ≤ 32 → widened (narrowed x) ≡ x
unfolding widened narrowed
widen_narrow c x l e h =
    let n : length (drop 48 x) ≡ 32 = rw length-drop (omega arith) in
    let z : drop 48 x ≡ zeros 32 = zeros_of (drop 48 x) (tail_zero c x l e h) ∙ ap zeros n in
    ap (λ r. take 48 x ++ r) (sym z) ∙ take-append-drop 48 x

pub length_narrowed : (x : List ℕ) → length x ≡ 80 → length (narrowed x) ≡ 48
unfolding narrowed
length_narrowed x l = length-take-le 48 x (omega arith)

pub length_widened : (old : List ℕ) → length old ≡ 48 → length (widened old) ≡ 80
unfolding widened
length_widened old l = rw (length-append, length_zeros, l)

-- a cart of ours with a title of at most 32 letters is an old one, and the other way round
pub to_old_form : (c : ℕ) (x : List ℕ) → length x ≡ 80 → cart_form c x ≡ true → byte x 1 ≤ 32 → old_cart_form c (narrowed x) ≡ true
unfolding narrowed
to_old_form c x l e h =
    let b : byte (take 48 x) 1 ≡ byte x 1 = get_or-take 48 x 1 0 (omega arith) in
    laid_out c (take 48 x) (length_narrowed x l) ∙ rw (widen_narrow c x l e h, e, b, le-leb (byte x 1) 32 h)

pub widened_byte : (old : List ℕ) → length old ≡ 48 → byte (widened old) 1 ≡ byte old 1
unfolding widened
widened_byte old l = get_or-append old (zeros 32) 0 1 (omega arith)

pub from_old_form : (c : ℕ) (old : List ℕ) → length old ≡ 48 → old_cart_form c old ≡ true → (cart_form c (widened old) ≡ true) × (byte (widened old) 1 ≤ 32)
from_old_form c old l e =
    let k : (cart_form c (widened old) && leb (byte old 1) 32) ≡ true = sym (laid_out c old l) ∙ e in
    (and_left (cart_form c (widened old)) (leb (byte old 1) 32) k, rw (widened_byte old l) (leb-true (byte old 1) 32 (and_right (cart_form c (widened old)) (leb (byte old 1) 32) k)))

pub narrow_widen : (old : List ℕ) → length old ≡ 48 → narrowed (widened old) ≡ old
unfolding narrowed widened
narrow_widen old l = take_at old (zeros 32) 48 l
