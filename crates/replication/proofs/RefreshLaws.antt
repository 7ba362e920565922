-- Laws of an accepted refresh.
use Prim.Native.Nat.{ℕ, ◌+◌, ◌-◌, ◌*◌, ◌<◌, ◌≤◌}
use mathlib.Core.Path.{◌≡◌, sym, ◌∙◌}
use mathlib.Core.Bool.{true}
use mathlib.Core.List.{List, []}
use native.Mathlib.Omega.{arith}
use lib.ListN.{length, take, drop}
use native.Mathlib.Nat.{add-sub_cancel_left}
use Rattle.carts.specs.Bytes.{over, every}
use Rattle.carts.specs.Operation.{act_all}
use Rattle.replication.specs.Answer.{refused, done}
use Rattle.replication.specs.Memory.{Memory, memory, nth, copy_at, with_copy}
use Rattle.edit_log.specs.Log.{records_of, transaction_at, walk}
use Rattle.edit_log.specs.Values.{usable, walkable}
use Rattle.replication.specs.Log.{log_count, transaction_after}
use Rattle.replication.specs.Rows.{refresh_stop}
use Rattle.replication.specs.Calls.{after, refresh, with_applied}
use Rattle.replication.specs.declared.control.Control.{Control}
use Rattle.replication.proofs.RowLaws.{unless_stopped, unless_accepted}
use Rattle.replication.proofs.DecideLaws.{accepted}
use Rattle.replication.proofs.Accepted.{refresh_passed}
use Rattle.replication.proofs.LogLaws.{log_walkable, transaction_usable}
use Rattle.replication.proofs.SendLaws.{studio_counts}

-- what an accepted refresh knows
pub record Refreshable (c : Control) (m : Memory) (i : ℕ) : Type 0 where
  pub low : 1 ≤ i
  pub high : i ≤ 4
  pub few : nth c.applied i ≤ 65535
  pub kept : c.retired ≤ nth c.applied i
  pub library : length m.library ≡ 61440
  pub log : length m.log ≡ 40960
  pub walks : walkable (nth c.applied i - c.retired) m.log c.oldest ≡ true
  pub acts : every (usable m.log) (records_of m.log (walk (nth c.applied i - c.retired) m.log c.oldest)) ≡ true

-- the whole call
module _ (c : Control) (m : Memory) (i v : ℕ) (e : v ≡ refresh_stop c m i) where
  pub refresh_refused : (v ≡ 0 → ⊥) → after (refused v) c m [] ≡ refresh c m i
  unfolding refresh
  refresh_refused n = rw e (unless_stopped _ _ _ (λ z. n (e ∙ z)))

  -- the walk to a transaction stays within the chain
  reached : (k : ℕ) → k < c.commits → k - c.retired ≤ log_count c
  unfolding log_count
  reached k h = omega arith

  pub refresh_known : v ≡ 0 → Refreshable c m i
  unfolding refresh_stop
  refresh_known z =
      let a = accepted c m _ (sym e ∙ z) in
      let f = a.0 in
      let p = refresh_passed c.studios i (nth c.sent i) (nth c.applied i) a.1 in
      let k = studio_counts c m i f p.who in
      let n = p.behind in
      let h : nth c.applied i < c.commits = omega (arith, k.1.order, k.1.known, n) in
      record {
        low = k.0.0;
        high = k.0.1;
        few = omega (arith, f.control.few);
        kept = k.1.kept;
        library = f.library.size;
        log = f.log.size;
        walks = log_walkable c m f (nth c.applied i - c.retired) (reached (nth c.applied i) h);
        acts = transaction_usable c m f (nth c.applied i) k.1.kept h;
      }

  pub refresh_accepted : v ≡ 0 → (n : ℕ) → n ≡ nth c.applied i + 1 → (next : Control) → next ≡ with_applied c i n → (library : List ℕ)
      → library ≡ over m.library (10240 * i) 10240 (act_all (copy_at m.library i) (transaction_at m.log (walk (nth c.applied i - c.retired) m.log c.oldest)))
      → after (done n) next (memory library m.log m.sessions) [] ≡ refresh c m i
  unfolding refresh with_copy transaction_after
  refresh_accepted z n k next q library l = rw (q, k, l) (unless_accepted _ _ _ (sym e ∙ z))

-- library memory with the part that was lent and came back
pub library_after : (library log : List ℕ) (i k retired applied start first : ℕ) (last : List ℕ)
    → last ≡ act_all (take (10240 * i + 10240 - 10240 * i) (drop (10240 * i) library)) (transaction_at log first) → first ≡ walk (applied - retired) log start → applied ≡ k
    → over library (10240 * i) (10240 * i + 10240 - 10240 * i) last ≡ over library (10240 * i) 10240 (act_all (copy_at library i) (transaction_at log (walk (k - retired) log start)))
unfolding copy_at
library_after library log i k retired applied start first last e f g = rw (e, f, g, add-sub_cancel_left)
