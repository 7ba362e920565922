-- Laws of the bytes that builders write.
use Prim.Native.Nat.{ℕ, zero, suc, ◌+◌, ◌*◌, ◌-◌, ◌/◌, ◌%◌, ◌<◌}
use mathlib.Core.Path.{◌≡◌, refl, sym, ap, ◌∙◌}
use mathlib.Core.List.{List, [], ◌∷◌, ◌++◌, append-nil, append_assoc}
use Rattle.std.proofs.Common.{min, inl, inr}
use Rattle.std.proofs.lemmas.Bool.Decides.{leb_tells}
use Rattle.std.specs.Int.{w32, to_le_bytes}
use native.Mathlib.Numerals.{add-one}
use native.Mathlib.Omega.{arith}
use lib.ListN.{length, get_or, take, drop, set, replicate, drop_of_length-le}
use lib.Seq.{take-suc, take_all, set_at, take_at, drop_at, drop-drop, length-take-le}
use Rattle.carts.specs.Bytes.{over, part, zeros, u16_bytes}
use Rattle.lines.specs.Build.{u32_bytes, title_field, operation_bytes, u16_list, numbers_bytes, low_bytes, studio_bytes}

-- the bytes of a u32 as the library writes them
pub u32_written : (n : ℕ) → n < 4294967296 → to_le_bytes w32 n ≡ u32_bytes n
unfolding u32_bytes
u32_written n h = let e : n / 16777216 % 256 ≡ n / 16777216 = omega arith in rw e

-- a title in its field: all of it, or as much as there is room for
pub title_kept : (title field : List ℕ) (n : ℕ) → n ≡ min (length title) 64 → length field ≡ 64 → take n title ++ drop n field ≡ take 64 title ++ drop (length title) field
title_kept title field n e l =
    elim (leb_tells (length title) 64) [
      | inl h ↦ let m : n ≡ length title = omega arith in rw (m, take_all (length title) title (omega arith), take_all 64 title h.1)
      | inr h ↦ let m : n ≡ 64 = omega arith in rw (m, drop_of_length-le field {i = 64} (omega arith), drop_of_length-le field {i = length title} (omega arith))
    ]

-- fewer zeros
pub drop_zeros : (m n : ℕ) → drop {A = ℕ} n (replicate m 0) ≡ replicate (m - n) 0
drop_zeros zero zero = refl
drop_zeros zero (suc n) = let e : 0 - suc n ≡ 0 = omega arith in rw e
drop_zeros (suc m) zero = let e : suc m - 0 ≡ suc m = omega arith in rw e
drop_zeros (suc m) (suc n) = let e : suc m - suc n ≡ m - n = omega arith in rw e (drop_zeros m n)

-- an operation's numbers, stored one after the other in zero bytes
abbrev pub numbers_stored : ℕ → ℕ → ℕ → ℕ → ℕ → List ℕ
numbers_stored kind n cart audio milliseconds =
    over (over (over (set (set (zeros 80) 0 kind) 1 n) 2 2 (u16_bytes cart)) 4 4 (u32_bytes audio)) 8 4 (u32_bytes milliseconds)

-- and then its title
pub operation_stored : (kind cart audio milliseconds : ℕ) (title : List ℕ) →
    let head = numbers_stored kind (length title) cart audio milliseconds in
    over head 16 64 (take 64 title ++ drop (length title) (part head 16 64)) ≡ operation_bytes kind cart audio milliseconds title
unfolding zeros u16_bytes u32_bytes title_field operation_bytes
operation_stored kind cart audio milliseconds title = rw (append-nil, drop_zeros 64 (length title))

-- bytes of numbers: their count, one number more
length_low : (ns : List ℕ) → length (low_bytes ns) ≡ length ns
unfolding low_bytes
length_low [] = refl
length_low (n ∷ ns) = ap suc (length_low ns)

low_append : (ns : List ℕ) (n : ℕ) → low_bytes (ns ++ (n ∷ [])) ≡ low_bytes ns ++ (n % 256 ∷ [])
unfolding low_bytes
low_append [] n = refl
low_append (m ∷ ns) n = ap (λ l. m % 256 ∷ l) (low_append ns n)

length_u16s : (ns : List ℕ) → length (u16_list ns) ≡ 2 * length ns
unfolding u16_list u16_bytes
length_u16s [] = refl
length_u16s (n ∷ ns) = let e = length_u16s ns in omega arith

u16s_append : (ns : List ℕ) (n : ℕ) → u16_list (ns ++ (n ∷ [])) ≡ u16_list ns ++ u16_bytes (n % 65536)
unfolding u16_list
u16s_append [] n = append-nil _
u16s_append (m ∷ ns) n = rw (u16s_append ns n) (sym (append_assoc (u16_bytes (m % 65536)) (u16_list ns) (u16_bytes (n % 65536))))

-- a turn of the loop that stores studios, and its end
pub low_more : (ns : List ℕ) (i : ℕ) → i < length ns → i < 16 → set (low_bytes (take i ns) ++ replicate (16 - i) 0) i (get_or ns i 0 % 256) ≡ low_bytes (take (i + 1) ns) ++ replicate (16 - (i + 1)) 0
low_more ns i h k =
    let e : 16 - i ≡ suc (16 - (i + 1)) = omega arith in
    let l : length (low_bytes (take i ns)) ≡ i = length_low (take i ns) ∙ length-take-le i ns (omega arith) in
    rw (e, add-one i, take-suc ns i 0, low_append (take i ns) (get_or ns i 0), append_assoc)
    (set_at (low_bytes (take i ns)) 0 (replicate (16 - suc i) 0) (get_or ns i 0 % 256) i l)

pub low_end : (ns : List ℕ) (i : ℕ) → i ≡ length ns → low_bytes (take i ns) ++ replicate (16 - i) 0 ≡ studio_bytes ns
unfolding studio_bytes zeros
low_end ns i e = rw (e, take_all (length ns) ns (omega arith))

-- a turn of the loop that stores numbers of two bytes, and its end
pub u16s_more : (ns d : List ℕ) (i : ℕ) → i < length ns → over (u16_list (take i ns) ++ drop (2 * i) d) (2 * i) 2 (u16_bytes (get_or ns i 0 % 65536)) ≡ u16_list (take (i + 1) ns) ++ drop (2 * (i + 1)) d
u16s_more ns d i h =
    let u = u16_list (take i ns) in
    let l : length u ≡ 2 * i = length_u16s (take i ns) ∙ ap (λ n. 2 * n) (length-take-le i ns (omega arith)) in
    let e : 2 * i + 2 ≡ 2 * suc i = omega arith in
    rw (take_at u (drop (2 * i) d) (2 * i) l, drop_at u (drop (2 * i) d) (2 * i) l, drop-drop, e, add-one i, take-suc ns i 0, u16s_append (take i ns) (get_or ns i 0), append_assoc)

pub u16s_end : (ns d : List ℕ) (i : ℕ) → i ≡ length ns → u16_list (take i ns) ++ drop (2 * i) d ≡ u16_list ns ++ drop (2 * length ns) d
u16s_end ns d i e = rw (e, take_all (length ns) ns (omega arith))

-- a request by numbers, stored in zero bytes
pub numbers_stored_law : (ns : List ℕ) →
    let head = set (set (zeros 80) 0 1) 1 (length ns) in
    over head 16 64 (u16_list ns ++ drop (2 * length ns) (part head 16 64)) ≡ numbers_bytes ns
unfolding zeros numbers_bytes
numbers_stored_law ns = rw (append-nil, drop_zeros 64 (2 * length ns))
