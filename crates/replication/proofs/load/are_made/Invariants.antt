-- The loop takes the log transaction by transaction; what is left of the walk is `whole_from`.
use mathlib.Core.Path.{◌≡◌}
use mathlib.Core.Bool.{true, ◌&&◌}
use Prim.Native.Nat.{◌-◌}
use Rattle.carts.specs.Bytes.{every}
use Rattle.edit_log.specs.Log.{log_records}
use Rattle.edit_log.specs.Values.{usable, walkable}
use Rattle.replication.specs.Log.{log_count}
use Rattle.replication.specs.Values.{are_level, whole_from}
use Rattle.replication.proofs.load.are_made.Given as goal

abbrev pub invariant-loop-n : goal.invariant-loop-n
invariant-loop-n l =
    let k = l.system.control in let library = l.system.library.now in let log = l.system.log.now in
    record {
      walks : walkable (k.commits - l.n) log l.r ≡ true;
      acts : every (usable log) (log_records (k.commits - l.n) log l.r) ≡ true;
      left : (are_level k library l.fn.copy k.retired && whole_from k library log (log_count k) k.retired k.oldest l.fn.copy)
          ≡ (l.ok && whole_from k library log (k.commits - l.n) l.n l.r l.copy);
    }
