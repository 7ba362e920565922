use Rattle.std.proofs.Common.{◌≡◌, ◌≤◌, ◌+◌, ◌-◌, ◌*◌, length, drop}
use Rattle.std.specs.Slice.Iter.{chunks_exact_rest, chunks_exact_size}
use Rattle.convert.specs.Held.{held_in}
use Rattle.convert.proofs.held.count_held.Given as goal

abbrev pub invariant-loop-cart : goal.invariant-loop-cart
invariant-loop-cart l =
    let k = length l.yielded in
    (chunks_exact_size l.cart-iterator ≡ l.size) × (chunks_exact_rest l.cart-iterator ≡ drop (l.size * k) l.carts) × (l.held ≤ k)
    × (held_in l.size 128 l.carts ≡ l.held + held_in l.size (128 - k) (drop (l.size * k) l.carts))
