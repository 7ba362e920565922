-- Laws of retire: its row, and the whole call.
use Prim.Native.Nat.{ℕ, suc, ◌+◌, ◌-◌, ◌≤◌, ◌<◌}
use mathlib.Core.Path.{◌≡◌, sym, ◌∙◌}
use mathlib.Core.Bool.{Bool, true, false, cond, ◌&&◌, not}
use mathlib.Core.List.{List, []}
use native.Mathlib.Omega.{arith}
use lib.Dec.{eqb, ltb}
use lib.ListN.{length, length-append}
use borrow.Author.Tests.{lt-ltb, le-ltb}
use Rattle.carts.specs.Bytes.{every}
use Rattle.carts.specs.Operation.{act_all}
use Rattle.edit_log.specs.Log.{records_of, transaction_at, log_records, next_transaction, walk, up_from}
use Rattle.edit_log.specs.Writes.{released}
use Rattle.edit_log.specs.Values.{usable, Ending, freed_of}
use Rattle.edit_log.specs.declared.free.Freed.{Freed}
use Rattle.edit_log.proofs.FreeLaws.{can_retire, last_small}
use Rattle.edit_log.proofs.WalkLaws.{walk_here}
use Rattle.replication.specs.Answer.{refused, done}
use Rattle.replication.specs.Memory.{Memory, memory, sixth, nth, copy_at, with_copy}
use Rattle.replication.specs.Log.{log_count}
use Rattle.replication.specs.Rows.{stopped, memory_rows, retire_rows, retire_stop}
use Rattle.replication.specs.Calls.{after, retire, with_log, retired_control}
use Rattle.replication.specs.declared.control.Control.{Control}
use Rattle.replication.proofs.RowLaws.{row_stops, row_passes, decides, memory_numbered, unless_stopped, unless_accepted}
use Rattle.replication.proofs.DecideLaws.{accepted}
use Rattle.replication.proofs.Accepted.{retire_passed}
use Rattle.replication.proofs.Formed.{Formed}
use Rattle.replication.proofs.LogLaws.{log_walkable, log_used, transaction_usable}

-- a studio that has applied the oldest transaction, and all of them
abbrev pub applied_by : Control → ℕ → Bool
applied_by c i = ltb c.retired (nth c.applied i)

pub applied_studios : (c : Control) → every (applied_by c) (up_from 1 c.studios) ≡ every (applied_by c) (up_from (0 + 1) (c.studios - 0))
applied_studios c = let z : c.studios - 0 ≡ c.studios = omega arith in rw z

-- the row, where memory does not stop the call: v is what the code has found of it
module _ (c : Control) (m : Memory) (v : ℕ) (e : v ≡ stopped (memory_rows c m)) (z : v ≡ 0) where
  abbrev applied : Bool
  applied = every (applied_by c) (up_from 1 c.studios)

  pub none_there : c.commits ≤ c.retired → 20 ≡ retire_stop c m
  unfolding retire_stop retire_rows
  none_there h = decides (memory_rows c m) _ v 20 (memory_numbered c m) e z (row_stops 20 _ [] (rw (le-ltb c.retired c.commits h)))

  pub still_needed : c.retired < c.commits → applied ≡ false → 20 ≡ retire_stop c m
  unfolding retire_stop retire_rows
  still_needed h g = decides (memory_rows c m) _ v 20 (memory_numbered c m) e z (row_stops 20 _ [] (rw (lt-ltb c.retired c.commits h, g)))

  pub may_retire : c.retired < c.commits → applied ≡ true → 0 ≡ retire_stop c m
  unfolding retire_stop retire_rows stopped
  may_retire h g = decides (memory_rows c m) _ v 0 (memory_numbered c m) e z (sym (row_passes 20 (not (ltb c.retired c.commits && applied)) [] (rw (lt-ltb c.retired c.commits h, g))))

-- what is known where no row stops a retire
pub record Retirable (c : Control) (m : Memory) : Type 0 where
  pub library : length m.library ≡ 61440
  pub log : length m.log ≡ 40960
  pub low : 1 ≤ c.oldest
  pub high : c.oldest ≤ 512
  pub last : c.free_last ≤ 512
  pub acts : every (usable m.log) (records_of m.log c.oldest) ≡ true
  pub ends : Ending m.log c.oldest
  pub held : length (records_of m.log c.oldest) ≤ c.used
  pub few : c.retired + 1 ≤ 65535

-- the oldest transaction is the first of the chain
module _ (c : Control) (m : Memory) (f : Formed c m) (some : c.retired < c.commits) where
  nothing_before : walk (c.retired - c.retired) m.log c.oldest ≡ c.oldest
  unfolding walk
  nothing_before = let z : c.retired - c.retired ≡ 0 = omega arith in rw z

  not_empty : log_count c ≡ 0 → ⊥
  unfolding log_count
  not_empty e = omega arith

  held_records : length (records_of m.log c.oldest) ≤ c.used
  unfolding log_records
  held_records =
      let n = not_empty in
      let q : log_count c ≡ suc (log_count c - 1) = omega arith in
      let u = log_used c m f in
      let e : length (log_records (suc (log_count c - 1)) m.log c.oldest) ≡ c.used = rw q at u in
      let a = length-append (records_of m.log c.oldest) (log_records (log_count c - 1) m.log (next_transaction m.log c.oldest)) in
      omega arith

  retirable : Retirable c m
  retirable =
      let w = walk_here (log_count c) m.log c.oldest not_empty (log_walkable c m f (log_count c) (omega arith)) in
      record {
        library = f.library.size;
        log = f.log.size;
        low = w.0;
        high = w.1;
        last = last_small (log_count c) m.log c.used c.oldest c.free_first c.free_last f.log.chains;
        acts = rw nothing_before at (transaction_usable c m f c.retired (omega arith) some);
        ends = can_retire (log_count c) m.log c.used c.oldest c.free_first c.free_last f.log.chains not_empty;
        held = held_records;
        few = omega (arith, f.control.few);
      }

-- the whole call; v is the number that the rows give
module _ (c : Control) (m : Memory) (v : ℕ) (e : v ≡ retire_stop c m) where
  pub retire_refused : (v ≡ 0 → ⊥) → after (refused v) c m [] ≡ retire c m
  unfolding retire
  retire_refused n = rw e (unless_stopped _ _ _ (λ z. n (e ∙ z)))

  pub retire_known : v ≡ 0 → Retirable c m
  unfolding retire_stop
  retire_known z =
      let a = accepted c m _ (sym e ∙ z) in
      retirable c m a.0 (retire_passed c.studios c.retired c.commits c.applied a.1).some

  -- the sixth copy, the log and control as the code leaves them
  pub retire_accepted : v ≡ 0 → (freed : Freed) → freed ≡ freed_of m.log c.oldest → (link : ℕ) → link ≡ next_transaction m.log c.oldest → (next : Control)
      → next ≡ with_log c (c.used - freed.count) c.commits (c.retired + 1) link (cond (eqb c.free_first 0) c.oldest c.free_first) freed.last
      → (library log : List ℕ) → library ≡ with_copy m.library sixth (act_all (copy_at m.library sixth) (transaction_at m.log c.oldest))
      → log ≡ released m.log c.oldest c.free_last → after (done next.retired) next (memory library log m.sessions) [] ≡ retire c m
  unfolding retire retired_control
  retire_accepted z freed w link k next q library log a b = rw (q, w, k, a, b) (unless_accepted _ _ _ (sym e ∙ z))
