-- Laws of the n parts of a list, as an iterator gives them.
use Prim.Native.Nat.{ℕ, suc, ◌+◌, ◌*◌, ◌<◌, ◌≤◌}
use mathlib.Core.Path.{◌≡◌}
use mathlib.Core.List.{List, ◌++◌}
use native.Mathlib.Omega.{arith}
use native.Mathlib.Nat.{mul-suc, mul-le-mul_left}
use native.Mathlib.Decide.{dec_le}
use lib.ListN.{length, drop}
use Rattle.carts.specs.Bytes.{part}
use Rattle.old_edition.proofs.EachCartLaws.{next_chunk, chunks_end}

-- a part that ends within n parts is one of them
one_of : (size i n : ℕ) → 1 ≤ size → size * i + size ≤ size * n → i < n
one_of size i n h l = go (dec_le n i)
  where
    go : Dec (n ≤ i) → i < n
    go (yes m) = let z = mul-le-mul_left size m in absurd (omega arith)
    go (no m) = omega arith

-- and where less is left than one, n have been passed
all_passed : (size i n : ℕ) → size * n < size * i + size → n ≤ i
all_passed size i n l = go (dec_le n i)
  where
    go : Dec (n ≤ i) → n ≤ i
    go (yes m) = m
    go (no m) =
        let r : suc i ≤ n = omega arith in
        let z : size * i + size ≤ size * n = rw (← mul-suc size i) (mul-le-mul_left size r) in
        absurd (omega arith)

-- what an iterator over the n parts of s gives after i others: the part at its place, what is left begins after it, and it is one of the n
pub record NextPart (size n i : ℕ) (s x later : List ℕ) : Type 0 where
  pub here : x ≡ part s (size * i) size
  pub left : later ≡ drop (size * (i + 1)) s
  pub below : i < n

module _ (size n i : ℕ) (s : List ℕ) {rest : List ℕ} (whole : length s ≡ size * n) (place : rest ≡ drop (size * i) s) where
  pub next_part : (x later : List ℕ) → 1 ≤ size → rest ≡ x ++ later → length x ≡ size → NextPart size n i s x later
  next_part x later h given l =
      let chunk = next_chunk size i s x later h place given l in
      let room = chunk.room in
      record {
        here = chunk.here;
        left = chunk.left;
        below = one_of size i n h (omega arith);
      }

  pub parts_end : length rest < size → n ≤ i
  parts_end l = let e = chunks_end size i s place l in all_passed size i n (omega arith)
