-- Laws of the texts on a page: a line as it is shown, and numbers in base ten.
use Prim.Native.Nat.{ℕ, zero, suc, ◌+◌, ◌-◌, ◌*◌, ◌/◌, ◌%◌, ◌^◌, ◌<◌, ◌≤◌}
use mathlib.Core.Path.{◌≡◌, refl}
use mathlib.Core.Bool.{Bool, true, false, cond}
use mathlib.Core.List.{List, [], ◌∷◌, ◌++◌}
use native.Mathlib.Omega.{arith}
use lib.ListN.{length, length-append}
use native.Mathlib.Numerals.{add-one}
use lib.Dec.{ltb}
use borrow.Author.Tests.{lt-ltb, le-ltb, ltb-false}
use Rattle.io.specs.Digits.{last_digits, IsDigitCount}
use Rattle.std.proofs.Math.Nat.{pow-succ'}
use Rattle.words.specs.Page.{digits_of, decimal, shown_byte, shown_to}
use Rattle.carts.specs.Bytes.{byte}

-- one byte more of a line as it is shown
pub shown_more : (s : List ℕ) (i : ℕ) → shown_to s (i + 1) ≡ shown_to s i ++ shown_byte (byte s i)
unfolding shown_to
shown_more s i = rw add-one

-- ten, k times multiplied by itself
abbrev tens : ℕ → ℕ
tens zero = 1
tens (suc k) = 10 * tens k

tens_some : (k : ℕ) → 0 < tens k
tens_some zero = omega arith
tens_some (suc k) = let h = tens_some k in omega arith

-- 10 ^ k
tens_pow : (k : ℕ) → 10 ^ k ≡ tens k
tens_pow zero = refl
tens_pow (suc k) = rw (pow-succ' 10 k, tens_pow k) refl

-- a number's last digits, as many as it has, are the number
digits_last : (m k n : ℕ) → k < m → n < 10 * tens k → (0 < k → tens k ≤ n) → last_digits 10 (suc k) n ≡ digits_of m n
unfolding digits_of
digits_last zero k n l h e = absurd (omega arith)
digits_last (suc m) zero n l h e = let o : n < 10 = omega arith in let r : n % 10 ≡ n = omega arith in rw (lt-ltb n 10 o, r, lt-ltb n 10 o) refl
digits_last (suc m) (suc k) n l h e =
    let t : 10 * tens k ≤ n = e (omega arith) in
    let p : 0 < tens k = tens_some k in
    let i : last_digits 10 (suc k) (n / 10) ≡ digits_of m (n / 10) = digits_last m k (n / 10) (omega arith) (omega arith) (λ _. omega arith) in
    let o : n % 10 < 10 = omega arith in
    rw (le-ltb n 10 (omega arith), lt-ltb (n % 10) 10 o, i) refl

-- a number as `io::decimal` writes it
pub decimal_written : (n k : ℕ) → k ≤ 20 → IsDigitCount 10 1 n k → last_digits 10 k n ≡ decimal n
unfolding decimal
decimal_written n zero l h = absurd (omega arith)
decimal_written n (suc k) l h =
    let e : suc k - 1 ≡ k = omega arith in
    let low : 1 < suc k → 10 ^ k ≤ n = rw e at h.2 in
    let high : n < 10 * tens k = rw (← tens_pow (suc k)) h.1 in
    digits_last 20 k n (omega arith) high (λ p. rw (← tens_pow k) (low (omega arith)))

-- one digit, or one more
one_more : (b : Bool) (x y : ℕ) (ds : List ℕ) (k : ℕ) → (b ≡ false → length ds ≤ k) → length (cond b (x ∷ []) (ds ++ (y ∷ []))) ≤ suc k
one_more true x y ds k h = omega arith
one_more false x y ds k h = let l = h refl in rw length-append (omega arith)

-- a number below a power of ten has at most as many digits as the power has zeros
digits_few : (m k n : ℕ) → n < 10 * tens k → length (digits_of m n) ≤ suc k
unfolding digits_of
digits_few zero k n h = omega arith
digits_few (suc m) zero n h = one_more (ltb n 10) (48 + n) (48 + n % 10) (digits_of m (n / 10)) 0 (λ e. let l = ltb-false n 10 e in absurd (omega arith))
digits_few (suc m) (suc k) n h = one_more (ltb n 10) (48 + n) (48 + n % 10) (digits_of m (n / 10)) (suc k) (λ e. digits_few m k (n / 10) (omega arith))

-- a u32 has at most ten digits, a u64 at most 20
pub decimal_few : (n : ℕ) → n < 10000000000 → length (decimal n) ≤ 10
unfolding decimal
decimal_few n h = digits_few 20 9 n (omega arith)

pub decimal_long : (n : ℕ) → n < 100000000000000000000 → length (decimal n) ≤ 20
unfolding decimal
decimal_long n h = digits_few 20 19 n (omega arith)
