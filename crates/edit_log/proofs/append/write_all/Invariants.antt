use Rattle.std.proofs.Common.{◌≡◌, ◌-◌, ◌*◌, ◌≤◌, drop, length}
use Rattle.std.specs.Iterator.Adapters.{enumerate_source, enumerate_count}
use Rattle.std.specs.Slice.Iter.{chunks_exact_rest, chunks_exact_size}
use Rattle.carts.specs.Operation.{operations_of}
use Rattle.edit_log.specs.Log.{chain, follow}
use Rattle.edit_log.specs.Values.{Takeable}
use Rattle.edit_log.specs.Writes.{write_all}
use Rattle.edit_log.proofs.TakeLaws.{ToWrite}
use Rattle.edit_log.proofs.append.write_all.Given as goal

abbrev pub invariant-loop-i : goal.invariant-loop-i
invariant-loop-i l =
    let i = enumerate_count l.i-iterator in
    let ops = enumerate_source l.i-iterator in
    (chunks_exact_rest ops ≡ drop (80 * i) l.ops) × (chunks_exact_size ops ≡ 80) × (80 * i ≤ length l.ops)
    × Takeable (l.count - i) l.log l.r
    × (write_all (chain l.count l.fn.log l.first) (operations_of l.ops) l.fn.log ≡ ToWrite l.count i l.ops l.log l.r)
    × (follow l.count l.fn.log l.first ≡ follow (l.count - i) l.log l.r)
