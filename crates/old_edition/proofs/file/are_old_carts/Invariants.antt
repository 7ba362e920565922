use Rattle.std.proofs.Common.{◌≡◌, ◌&&◌, ◌+◌, ◌-◌, ◌*◌, drop}
use Rattle.std.specs.Slice.Iter.{chunks_exact_rest, chunks_exact_size}
use Rattle.std.specs.Iterator.Adapters.{enumerate_source, enumerate_count}
use Rattle.carts.specs.Bytes.{each_part}
use Rattle.old_edition.specs.OldFile.{old_cart_form}
use Rattle.old_edition.proofs.file.are_old_carts.Given as goal

abbrev pub invariant-loop-i : goal.invariant-loop-i
invariant-loop-i l =
    let k = enumerate_count l.i-iterator in
    (chunks_exact_size (enumerate_source l.i-iterator) ≡ 48) × (chunks_exact_rest (enumerate_source l.i-iterator) ≡ drop (48 * k) l.carts)
    × (each_part old_cart_form 48 128 1 l.carts ≡ (l.ok && each_part old_cart_form 48 (128 - k) (k + 1) (drop (48 * k) l.carts)))
