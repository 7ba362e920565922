-- How many carts of an input are held.
use Rattle.std.specs.Prelude.{cond, List, ℕ, zero, suc, ◌+◌, take, drop}
use Rattle.carts.specs.Cart.{held}

-- how many of n carts of `size` bytes are held: an old cart is "laid out as ours"
unfoldable pub held_in : ℕ → ℕ → List ℕ → ℕ
held_in size zero s = 0
held_in size (suc n) s = cond (held (take size s)) 1 0 + held_in size n (drop size s)
