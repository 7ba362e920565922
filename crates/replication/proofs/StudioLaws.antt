-- Laws for loops over the studios, which are counted from 1: one test of each of them.
use Prim.Native.Nat.{ℕ, ◌+◌, ◌-◌, ◌≤◌, ◌<◌}
use mathlib.Core.Path.{◌≡◌}
use mathlib.Core.Bool.{Bool, ◌&&◌}
use native.Mathlib.Omega.{arith}
use Rattle.carts.specs.Bytes.{every}
use Rattle.carts.proofs.ScanLaws.{test_more, test_end}
use Rattle.edit_log.specs.Log.{up_from}
use Rattle.edit_log.proofs.UpFromLaws.{up_next, up_end}

-- studio i is next: a turn, the last turn, and the end
module _ (p : ℕ → Bool) (n i : ℕ) (ok : Bool) {whole : Bool} (inv : whole ≡ (ok && every p (up_from i (n - (i - 1))))) (low : 1 ≤ i) where
  pub studios_more : {new : Bool} → i ≤ n → new ≡ (ok && p i) → whole ≡ (new && every p (up_from (i + 1) (n - (i + 1 - 1))))
  studios_more h e =
      let back : i - 1 + 1 ≡ i = omega arith in
      let next : i + 1 - 1 ≡ i = omega arith in
      rw next (test_more ok (p i) (every p (up_from (i + 1) (n - i))) inv (rw back at (up_next p n (i - 1) (omega arith))) e)

  pub studios_end : n < i → ok ≡ whole
  studios_end h = let back : i - 1 + 1 ≡ i = omega arith in test_end ok inv (rw back at (up_end p n (i - 1) (omega arith)))

pub studios_last : (p : ℕ → Bool) (n i : ℕ) (ok : Bool) {new whole : Bool} → whole ≡ (ok && every p (up_from i (n - (i - 1)))) → 1 ≤ i → i ≡ n → new ≡ (ok && p i) → new ≡ whole
studios_last p n i ok {new} inv low h e = studios_end p n (i + 1) new (studios_more p n i ok inv low (omega arith) e) (omega arith) (omega arith)
