use Rattle.std.proofs.Common.{◌≡◌, ◌||◌, ◌-◌, ◌*◌, length, drop}
use Rattle.std.specs.Slice.Iter.{chunks_exact_rest, chunks_exact_size}
use Rattle.carts.specs.Bytes.{any, parts}
use Rattle.old_edition.specs.Convert.{long_title}
use Rattle.old_edition.proofs.file.has_long_title.Given as goal

abbrev pub invariant-loop-cart : goal.invariant-loop-cart
invariant-loop-cart l =
    let k = length l.yielded in
    (chunks_exact_size l.cart-iterator ≡ 80) × (chunks_exact_rest l.cart-iterator ≡ drop (80 * k) l.copy)
    × (any long_title (parts 80 128 l.copy) ≡ (l.found || any long_title (parts 80 (128 - k) (drop (80 * k) l.copy))))
