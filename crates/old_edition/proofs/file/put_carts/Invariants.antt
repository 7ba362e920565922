use Rattle.std.proofs.Common.{◌≡◌, ◌++◌, ◌-◌, ◌*◌, take, drop}
use Rattle.std.specs.Slice.Iter.{chunks_exact_rest, chunks_exact_size}
use Rattle.std.specs.Iterator.Adapters.{enumerate_source, enumerate_count}
use Rattle.old_edition.specs.Convert.{narrowed, each_cart}
use Rattle.old_edition.proofs.file.put_carts.Given as goal

abbrev pub invariant-loop-i : goal.invariant-loop-i
invariant-loop-i l =
    let k = enumerate_count l.i-iterator in
    (chunks_exact_size (enumerate_source l.i-iterator) ≡ 80) × (chunks_exact_rest (enumerate_source l.i-iterator) ≡ drop (80 * k) l.copy)
    × (each_cart narrowed 80 128 l.copy ≡ take (48 * k) l.carts ++ each_cart narrowed 80 (128 - k) (drop (80 * k) l.copy))
