-- Laws of held carts, for the loop that counts them.
use Prim.Native.Nat.{ℕ, ◌+◌, ◌-◌, ◌*◌, ◌<◌, ◌≤◌}
use mathlib.Core.Path.{◌≡◌, sym, ◌∙◌}
use mathlib.Core.Bool.{Bool, cond}
use mathlib.Core.List.{List}
use native.Mathlib.Omega.{arith}
use lib.Dec.{eqb}
use lib.ListN.{drop}
use Rattle.carts.specs.Bytes.{part, byte}
use Rattle.carts.specs.Cart.{held}
use Rattle.carts.proofs.RecordLaws.{left_suc, drop_next}
use Rattle.convert.specs.Held.{held_in}

-- a turn of the loop that counts held carts, and its end
module _ (size n i : ℕ) (s : List ℕ) (count : ℕ) {whole : ℕ} (inv : whole ≡ count + held_in size (n - i) (drop (size * i) s)) where
  pub held_more : i < n → (b : Bool) {new : ℕ} → eqb (byte (part s (size * i) size) 0) 1 ≡ b → new ≡ count + cond b 1 0 → whole ≡ new + held_in size (n - (i + 1)) (drop (size * (i + 1)) s)
  unfolding held_in held
  held_more h b e f = inv ∙ rw (left_suc n i h, ← drop_next size i s, e, f) (omega arith)

  pub held_all : n ≤ i → count ≡ whole
  unfolding held_in
  held_all h = let e : n - i ≡ 0 = omega arith in sym (inv ∙ rw e (omega arith))
