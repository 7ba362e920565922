-- Laws of requests: their numbers one by one, and the case that the code makes of them.
use Prim.Native.Nat.{ℕ, zero, suc, ◌+◌, ◌-◌, ◌*◌, ◌<◌, ◌≤◌}
use mathlib.Core.Path.{◌≡◌, refl, sym, ap, ◌∙◌}
use mathlib.Core.Bool.{Bool, true, false, ◌&&◌, and-false, and-true}
use mathlib.Core.List.{List, ◌∷◌}
use native.Mathlib.Nat.{add-zero}
use native.Mathlib.Omega.{arith}
use lib.ListN.{length, take, drop, length-drop}
use lib.Seq.{get_or-drop, drop-drop, take_all}
use lib.Dec.{eqb}
use borrow.Author.Tests.{le-leb, lt-leb}
use Rattle.carts.specs.Bytes.{part, byte, u16, u16s, within, all, every, all_zero}
use Rattle.carts.proofs.RecordLaws.{drop_next, left_suc}
use Rattle.carts.proofs.ScanLaws.{test_more, test_end}
use Rattle.replication.specs.Request.{numbers_in, request_of, numbers_form, is_waiting, needed}
use Rattle.replication.specs.Values.{waiting_value, waits_by, needed_by}

-- a u16 behind the first k bytes
pub u16_drop : (s : List ℕ) (k : ℕ) → u16 (drop k s) 0 ≡ u16 s k
unfolding u16
u16_drop s k = rw (get_or-drop k s 0 0, get_or-drop k s 1 0, add-zero)

pub u16_behind : (s : List ℕ) (k j : ℕ) → u16 (drop k s) j ≡ u16 s (k + j)
u16_behind s k j = sym (u16_drop (drop k s) j) ∙ ap (λ (z : List ℕ). u16 z 0) (drop-drop j k s) ∙ u16_drop s (k + j)

-- the first of the numbers left, and the others
u16s_next : (n i : ℕ) (s : List ℕ) → i < n → u16s (n - i) (drop (2 * i) s) ≡ u16 s (2 * i) ∷ u16s (n - (i + 1)) (drop (2 * (i + 1)) s)
unfolding u16s
u16s_next n i s h = rw (left_suc n i h, u16_drop s (2 * i), drop_next 2 i s)

pub length_u16s : (n : ℕ) (s : List ℕ) → length (u16s n s) ≡ n
unfolding u16s
length_u16s zero s = refl
length_u16s (suc n) s = ap suc (length_u16s n (drop 2 s))

-- the same in a request
pub numbers_next : (x : List ℕ) (n i : ℕ) → i < n → u16s (n - i) (drop (2 * i) (drop 16 x)) ≡ u16 x (16 + 2 * i) ∷ u16s (n - (i + 1)) (drop (2 * (i + 1)) (drop 16 x))
numbers_next x n i h = rw (u16s_next n i (drop 16 x) h, u16_behind x 16 (2 * i))

-- a turn of a loop over the numbers, and its end
module _ (p : ℕ → Bool) (x : List ℕ) (n i : ℕ) (ok : Bool) {whole : Bool} (inv : whole ≡ (ok && every p (u16s (n - i) (drop (2 * i) (drop 16 x))))) where
  pub numbers_more : {new : Bool} → i < n → new ≡ (ok && p (u16 x (16 + 2 * i))) → whole ≡ (new && every p (u16s (n - (i + 1)) (drop (2 * (i + 1)) (drop 16 x))))
  unfolding every
  numbers_more h e =
      test_more ok (p (u16 x (16 + 2 * i))) (every p (u16s (n - (i + 1)) (drop (2 * (i + 1)) (drop 16 x)))) inv (rw (numbers_next x n i h)) e

  pub numbers_end : n ≤ i → ok ≡ whole
  unfolding every u16s
  numbers_end h = let z : n - i ≡ 0 = omega arith in test_end ok inv (rw z)

-- the bytes after n numbers
pub numbers_rest : (x : List ℕ) (n : ℕ) → length x ≡ 80 → n ≤ 32 → drop (2 * n) (part x 16 64) ≡ take (80 - (16 + 2 * n)) (drop (16 + 2 * n) x)
numbers_rest x n l h =
    let a : length (drop 16 x) ≤ 64 = rw length-drop (omega arith) in
    let b : length (drop (16 + 2 * n) x) ≤ 80 - (16 + 2 * n) = rw length-drop (omega arith) in
    rw (take_all 64 (drop 16 x) a, take_all (80 - (16 + 2 * n)) (drop (16 + 2 * n) x) b) (drop-drop (2 * n) 16 x)

module _ (x : List ℕ) (n : ℕ) (e : n ≡ byte x 1) where
  pub numbers_few : n < 1 → false ≡ numbers_form x
  unfolding numbers_form all within
  numbers_few h = rw (← e, lt-leb 1 n h)

  pub numbers_many : 32 < n → false ≡ numbers_form x
  unfolding numbers_form all within
  numbers_many h = rw (← e, lt-leb n 32 h, and-false)

  pub numbers_are : 1 ≤ n → n ≤ 32 → (ok rest : Bool) → ok ≡ every (within 1 128) (numbers_in x) → rest ≡ all_zero (drop (2 * n) (part x 16 64)) → (ok && rest) ≡ numbers_form x
  unfolding numbers_form all within
  numbers_are h k ok rest o r = rw (← e, le-leb 1 n h, le-leb n 32 k, ← o, ← r, and-true)

-- the code's case of a read, and the read
by_kind : (x : List ℕ) (a b : Bool) → eqb (byte x 0) 1 ≡ a → eqb (byte x 0) 2 ≡ b → (is_waiting (request_of x) ≡ waits_by (waiting_value x)) × (needed (request_of x) ≡ needed_by (waiting_value x))
unfolding request_of waiting_value is_waiting needed numbers_in
by_kind x true b e f = rw e (refl, ap (λ (n : ℕ). 80 * n) (length_u16s (byte x 1) (drop 16 x)))
by_kind x false true e f = rw (e, f) (refl, refl)
by_kind x false false e f = rw (e, f) (refl, refl)

pub waiting_is : (x : List ℕ) → is_waiting (request_of x) ≡ waits_by (waiting_value x)
waiting_is x = (by_kind x (eqb (byte x 0) 1) (eqb (byte x 0) 2) refl refl).0

pub needed_is : (x : List ℕ) → needed (request_of x) ≡ needed_by (waiting_value x)
needed_is x = (by_kind x (eqb (byte x 0) 1) (eqb (byte x 0) 2) refl refl).1
