-- Laws of parts of a list, read and replaced.
use Prim.Native.Nat.{ℕ, zero, suc, ◌+◌, ◌-◌, ◌<◌, ◌≤◌}
use mathlib.Core.Path.{◌≡◌, refl, sym, ap, ◌∙◌}
use mathlib.Core.List.{List, [], ◌∷◌, ◌++◌, append_assoc, append-nil}
use native.Mathlib.Numerals.{add-one}
use native.Mathlib.Omega.{arith}
use lib.ListN.{length, get_or, take, drop, set, length-append, length-take, length-drop, drop_of_length-le}
use lib.Seq.{drop-cons, take-suc, take-nil, take_all, take_at, drop_at, drop-drop, take-take, set_at, get_or-take, get_or-drop, length-take-le}
use Rattle.carts.specs.Bytes.{part, over, byte, u16, u32}

pub length_part : (s : List ℕ) (at n : ℕ) → at + n ≤ length s → length (part s at n) ≡ n
length_part s at n h = simp (length-take, length-drop) (omega arith)

-- a turn of a loop that copies s over d from the front
pub copy_more : (d s : List ℕ) (i : ℕ) → i < length d → i < length s → set (take i s ++ drop i d) i (get_or s i 0) ≡ take (i + 1) s ++ drop (i + 1) d
copy_more d s i hd hs =
    rw (add-one, take-suc s i 0, append_assoc, drop-cons d i 0)
    (set_at (take i s) (get_or d i 0) (drop (suc i) d) (get_or s i 0) i (length-take-le i s (omega arith)))

pub copy_end : (d s : List ℕ) (i : ℕ) → length d ≤ i → length d ≡ length s → take i s ++ drop i d ≡ s ++ []
copy_end d s i hd e = rw (drop_of_length-le d hd, take_all i s (omega arith))

-- two stores side by side
stores : (s : List ℕ) (at a b : ℕ) → at + 2 ≤ length s → set (set s at a) (suc at) b ≡ over s at 2 (a ∷ b ∷ [])
stores [] at a b h = absurd (omega arith)
stores (x ∷ []) zero a b h = absurd (omega arith)
stores (x ∷ y ∷ s) zero a b h = refl
stores (x ∷ s) (suc at) a b h = ap (λ l. x ∷ l) (stores s at a b (omega arith))

pub over_pair : (s : List ℕ) (at a b : ℕ) → at + 2 ≤ length s → set (set s at a) (at + 1) b ≡ over s at 2 (a ∷ b ∷ [])
over_pair s at a b h = rw add-one (stores s at a b h)

-- a part within the first k bytes, and one from byte k on
pub part_take : (s : List ℕ) (k at n : ℕ) → at + n ≤ k → part (take k s) at n ≡ part s at n
part_take [] k at n h = rw take-nil
part_take (x ∷ s) k zero n h = take-take n k (x ∷ s) (omega arith)
part_take (x ∷ s) zero (suc at) n h = absurd (omega arith)
part_take (x ∷ s) (suc k) (suc at) n h = part_take s k at n (omega arith)

pub drop_later : (s : List ℕ) (k at : ℕ) → k ≤ at → drop at s ≡ drop (at - k) (drop k s)
drop_later s k at h = let e : k + (at - k) ≡ at = omega arith in sym (drop-drop (at - k) k s ∙ ap (λ j. drop j s) e)

-- a part replaced: the length stays, what was put in is read back, and what stands before and after it is unchanged
module _ (s : List ℕ) (at n : ℕ) (ys : List ℕ) where
  pub length_over : at + n ≤ length s → length ys ≡ n → length (over s at n ys) ≡ length s
  length_over h e = simp (length-append, length-take, length-drop, e) (omega arith)

  pub drop_over : at ≤ length s → drop at (over s at n ys) ≡ ys ++ drop n (drop at s)
  drop_over h = drop_at (take at s) (ys ++ drop n (drop at s)) at (length-take-le at s h)

  pub part_over : at ≤ length s → length ys ≡ n → part (over s at n ys) at n ≡ ys
  part_over h e = rw drop_over (take_at ys (drop n (drop at s)) n e)

  pub take_over : (k : ℕ) → at ≤ length s → k ≤ at → take k (over s at n ys) ≡ take k s
  take_over k h l =
      sym (take-take k at (over s at n ys) l) ∙ ap (λ r. take k r) (take_at (take at s) (ys ++ drop n (drop at s)) at (length-take-le at s h)) ∙ take-take k at s l

  pub drop_over_after : (k : ℕ) → at ≤ length s → length ys ≡ n → at + n ≤ k → drop k (over s at n ys) ≡ drop k s
  drop_over_after k h e l =
      drop_later (over s at n ys) (at + n) k l
      ∙ ap (λ r. drop (k - (at + n)) r) (sym (drop-drop n at (over s at n ys)) ∙ ap (λ r. drop n r) (drop_over h) ∙ drop_at ys (drop n (drop at s)) n e ∙ drop-drop n at s)
      ∙ sym (drop_later s (at + n) k l)

  pub over_before : (k m : ℕ) → at ≤ length s → k + m ≤ at → part (over s at n ys) k m ≡ part s k m
  over_before k m h l = sym (part_take (over s at n ys) at k m l) ∙ ap (λ r. part r k m) (take_over at h (omega arith)) ∙ part_take s at k m l

  pub over_after : (k m : ℕ) → at ≤ length s → length ys ≡ n → at + n ≤ k → part (over s at n ys) k m ≡ part s k m
  over_after k m h e l = ap (λ r. take m r) (drop_over_after k h e l)

-- a part, and a byte, of a part
part_part : (s : List ℕ) (a n at m : ℕ) → a ≤ at → at + m ≤ a + n → part (part s a n) (at - a) m ≡ part s at m
part_part s a n at m h l = part_take (drop a s) n (at - a) m (omega arith) ∙ ap (λ r. take m r) (sym (drop_later s a at h))

byte_part : (s : List ℕ) (a n at : ℕ) → a ≤ at → at < a + n → byte (part s a n) (at - a) ≡ byte s at
byte_part s a n at h l = let e : a + (at - a) ≡ at = omega arith in get_or-take n (drop a s) (at - a) 0 (omega arith) ∙ get_or-drop a s (at - a) 0 ∙ ap (λ k. byte s k) e

-- two lists that agree on n bytes from byte a on have the same parts, bytes and numbers there
module _ (s t : List ℕ) (a n : ℕ) (e : part s a n ≡ part t a n) where
  pub part_in : (at m : ℕ) → a ≤ at → at + m ≤ a + n → part s at m ≡ part t at m
  part_in at m h l = sym (part_part s a n at m h l) ∙ ap (λ r. part r (at - a) m) e ∙ part_part t a n at m h l

  pub byte_in : (at : ℕ) → a ≤ at → at < a + n → byte s at ≡ byte t at
  byte_in at h l = sym (byte_part s a n at h l) ∙ ap (λ r. byte r (at - a)) e ∙ byte_part t a n at h l

  pub u16_in : (at : ℕ) → a ≤ at → at + 2 ≤ a + n → u16 s at ≡ u16 t at
  unfolding u16
  u16_in at h l = rw (byte_in at h (omega arith), byte_in (at + 1) (omega arith) (omega arith))

  pub u32_in : (at : ℕ) → a ≤ at → at + 4 ≤ a + n → u32 s at ≡ u32 t at
  unfolding u32
  u32_in at h l = rw (byte_in at h (omega arith), byte_in (at + 1) (omega arith) (omega arith), byte_in (at + 2) (omega arith) (omega arith), byte_in (at + 3) (omega arith) (omega arith))

-- the whole list replaced
pub over_whole : (s ys : List ℕ) (n : ℕ) → length s ≤ n → over s 0 n ys ≡ ys
over_whole s ys n h = rw (drop_of_length-le s h, append-nil)
