-- Laws of the single library's answers.
use Prim.Native.Nat.{ℕ, suc, ◌+◌, ◌-◌, ◌*◌, ◌<◌, ◌≤◌}
use mathlib.Core.Path.{◌≡◌, refl}
use mathlib.Core.Bool.{Bool, cond, ◌&&◌}
use mathlib.Core.List.{List}
use native.Mathlib.Omega.{arith}
use lib.Dec.{eqb}
use borrow.Author.Tests.{le-leb}
use Rattle.carts.specs.Bytes.{byte}
use Rattle.carts.proofs.ScanLaws.{test_end}
use Rattle.lines.specs.Text.{part_in}
use Rattle.lines.specs.Build.{asked_at}
use Rattle.one_copy.specs.Replay.{place_agrees, is_held_at, places_agree, held_places, numbers_agree}

-- the places left of n, of which i have been passed
module _ (copy request shown : List ℕ) (n i : ℕ) where
  pub places_next : i < n → places_agree copy request shown i (n - i) ≡ (place_agrees copy (asked_at request i) (part_in shown (80 * i) 80) && places_agree copy request shown (i + 1) (n - (i + 1)))
  unfolding places_agree
  places_next h = let e : n - i ≡ suc (n - (i + 1)) = omega arith in rw e

  pub held_next : i < n → held_places copy request i (n - i) ≡ cond (is_held_at copy (asked_at request i)) 1 0 + held_places copy request (i + 1) (n - (i + 1))
  unfolding held_places
  held_next h = let e : n - i ≡ suc (n - (i + 1)) = omega arith in rw e

  -- none are left
  pub numbers_done : (found held : ℕ) (ok : Bool) → n ≡ byte request 1 → n ≤ 32 → n ≤ i → places_agree copy request shown 0 n ≡ (ok && places_agree copy request shown i (n - i))
      → held_places copy request 0 n ≡ held + held_places copy request i (n - i) → (ok && eqb held found) ≡ numbers_agree copy request found shown
  unfolding places_agree held_places numbers_agree
  numbers_done found held ok e h k p q =
      let z : n - i ≡ 0 = omega arith in
      let a : ok ≡ places_agree copy request shown 0 n = test_end ok (rw z at p) refl in
      let b : held ≡ held_places copy request 0 n = let r = rw z at q in omega arith in
      rw (a, b, ← e, le-leb n 32 h)
