use Rattle.std.proofs.Common.{◌≡◌, ◌+◌, ◌-◌, ◌*◌, drop}
use Rattle.std.specs.Slice.Iter.{chunks_exact_rest, chunks_exact_size}
use Rattle.std.specs.Iterator.Adapters.{enumerate_source, enumerate_count}
use Rattle.convert.specs.Fault.{size_by, keeps, first_fault, fault_by}
use Rattle.convert.proofs.fault.first_fault.Given as goal

abbrev pub invariant-loop-i : goal.invariant-loop-i
invariant-loop-i l =
    let k = enumerate_count l.i-iterator in
    let size = size_by l.rule in
    (chunks_exact_size (enumerate_source l.i-iterator) ≡ size) × (chunks_exact_rest (enumerate_source l.i-iterator) ≡ drop (size * k) l.carts)
    × (fault_by l.rule l.carts ≡ first_fault (keeps l.rule) size (128 - k) (k + 1) (drop (size * k) l.carts))
