-- Send: it keeps the layout, and does what the plain machine's send does.
use mathlib.Core.Path.{◌≡◌, refl, ◌∙◌}
use mathlib.Core.Bool.{true}
use mathlib.Core.List.{List}
use Prim.Native.Nat.{ℕ, ◌+◌, ◌-◌, ◌≤◌}
use native.Mathlib.Omega.{arith}
use native.Mathlib.Decide.{ℕ_discrete}
use lib.ListN.{get_or, set, length-set}
use lib.Seq.{get_or-set_same, get_or-set_other}
use Rattle.carts.specs.Transaction.{Transaction}
use Rattle.replication.specs.Memory.{Memory, Arrays, nth, studio_of}
use Rattle.replication.specs.Log.{log_count}
use Rattle.replication.specs.Layout.{session_form, counts_form}
use Rattle.replication.specs.Rows.{Row, stopped, send_rows, send_stop}
use Rattle.replication.specs.Calls as Bytes
use Rattle.replication.specs.Calls.{After, with_sent}
use Rattle.replication.specs.declared.control.Control.{Control}
use Rattle.replication.proofs.Formed.{Formed, counts_of, of_counts, few}
use Rattle.replication.proofs.RowLaws.{memory_passes, unless_case, unless_both}
use Rattle.replication.proofs.Accepted.{SendAccepted, send_passed}
use Rattle.machine.specs.Machine as Plain
use Rattle.machine.specs.Machine.{Session}
use Rattle.refinement.specs.Represents.{OfLayout, Represents, Simulates}
use Rattle.refinement.proofs.Represented.{machine_of, log_length}
use Rattle.refinement.proofs.Arrays.{arrays, formed, of_layout_law}

module _ (c : Control) (m : Memory) (i : ℕ) where
  rows : List Row
  rows = send_rows c.studios i (nth c.sent i) (nth c.applied i) c.commits

  -- control after a send that no row stops
  sent_arrays : Arrays c → Arrays (with_sent c i (nth c.sent i + 1))
  unfolding with_sent
  sent_arrays a = record { session_studios = a.session_studios; sent = length-set c.sent (i - 1) (nth c.sent i + 1) ∙ a.sent; applied = a.applied }

  sent_formed : Arrays c → Formed c m → SendAccepted c.studios i (nth c.sent i) (nth c.applied i) c.commits
      → Formed (with_sent c i (nth c.sent i + 1)) m
  unfolding with_sent log_count session_form studio_of counts_form
  sent_formed a f p = record {
    control = f.control;
    library = f.library;
    log = f.log;
    sessions = f.sessions;
    counts = λ j l g. count j l g (ℕ_discrete j i);
  }
    where
      n : ℕ
      n = nth c.sent i + 1

      count : (j : ℕ) → 1 ≤ j → j ≤ 4 → Dec (j ≡ i) → counts_form (with_sent c i n) j ≡ true
      count j l g (yes e) =
          let w = p.who in
          let q = few c m f in
          let k = counts_of c i w.high (f.counts i w.low (omega arith)) in
          let same : get_or (set c.sent (i - 1) n) (i - 1) 0 ≡ n = get_or-set_same c.sent (i - 1) n 0 (let k = a.sent in omega arith) in
          let o : nth c.applied i ≤ n = omega arith in
          let b : n ≤ c.commits = let x = p.unsent in omega arith in
          let d : n - nth c.applied i ≤ 32 = let x = p.near in omega arith in
          rw e (of_counts (with_sent c i n) i w.high (record { order = rw same o; known = rw same b; near = rw same d; kept = k.kept }))
      count j l g (no ne) =
          let w = p.who in
          let other : get_or (set c.sent (i - 1) n) (j - 1) 0 ≡ get_or c.sent (j - 1) 0 = get_or-set_other c.sent (i - 1) (j - 1) n 0 (omega arith) in
          rw other (f.counts j l g)

  pub send_keeps : OfLayout c m → OfLayout (Bytes.send c m i).control (Bytes.send c m i).memory
  unfolding Bytes.send send_stop rows
  send_keeps h =
      rw (memory_passes c m rows h.lengths h.layout)
      (unless_case (λ (r : After). OfLayout r.control r.memory) (stopped rows) _ _ (λ _ _. h)
      (λ e. of_layout_law _ _ (sent_arrays (arrays c m h)) (sent_formed (arrays c m h) (formed c m h) (send_passed _ _ _ _ _ e))))

  pub send_simulates : (log : List Transaction) (sessions : List Session) → Represents c m (machine_of c log sessions)
      → Simulates (Bytes.send c m i) (Plain.send (machine_of c log sessions) i)
  unfolding Bytes.send send_stop Plain.send rows with_sent log_count studio_of
  send_simulates log sessions h =
      rw (memory_passes c m rows h.form.lengths h.form.layout, log_length c m _ h)
      (unless_both Simulates (stopped rows) _ _ _ _
      (λ _ _. record { answer = refl; output = refl; next = h })
      (λ e. record {
        answer = refl;
        output = refl;
        next = record {
          form = of_layout_law _ _ (sent_arrays (arrays c m h.form)) (sent_formed (arrays c m h.form) (formed c m h.form) (send_passed _ _ _ _ _ e));
          studios = refl;
          old = h.old;
          many = h.many;
          whole = h.whole;
          log = h.log;
          retired = refl;
          sent = refl;
          applied = refl;
          count = h.count;
          sessions = h.sessions;
          primary = h.primary;
          replicas = h.replicas;
          base = h.base;
        };
      }))
