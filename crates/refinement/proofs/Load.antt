-- Load (02, S-8): it keeps the layout, and does what the plain machine's load does.
use mathlib.Core.Path.{◌≡◌, refl, sym, ap, ◌∙◌}
use mathlib.Core.Bool.{true}
use mathlib.Core.List.{List}
use Prim.Native.Nat.{ℕ, ◌≤◌}
use native.Mathlib.Omega.{arith}
use Rattle.carts.specs.Transaction.{Transaction, L, LFrom}
use Rattle.replication.specs.Memory.{Memory, copy_at, nth}
use Rattle.replication.specs.Log.{logged}
use Rattle.replication.specs.Rows.{stopped, load_rows, copies_form, load_stop}
use Rattle.replication.specs.Call as Call
use Rattle.replication.specs.Calls as Bytes
use Rattle.replication.specs.Calls.{After}
use Rattle.replication.specs.declared.control.Control.{Control}
use Rattle.replication.proofs.RowLaws.{memory_passes, unless_case, unless_both}
use Rattle.replication.proofs.Formed.{Formed, few, counts_of, retired_known}
use Rattle.replication.proofs.LoadLaws.{of_copies}
use Rattle.machine.specs.Machine as Plain
use Rattle.machine.specs.Machine.{Session, Machine}
use Rattle.machine.proofs.Libraries.{L-from}
use Rattle.refinement.specs.Represents.{OfLayout, Represents, Simulates}
use Rattle.refinement.proofs.Represented.{machine_of, log_length, kept_log}
use Rattle.refinement.proofs.Arrays.{formed}

pub load_unchanging : (c : Control) (m : Memory) → ((Bytes.call c m Call.load).control ≡ c) × ((Bytes.call c m Call.load).memory ≡ m)
unfolding Bytes.call_by Bytes.load
load_unchanging c m = unless_case (λ (r : After). (r.control ≡ c) × (r.memory ≡ m)) _ _ _ (λ _ _. (refl, refl)) (λ _. (refl, refl))

module _ (c : Control) (m : Memory) where
  pub load_keeps : OfLayout c m → OfLayout (Bytes.load c m).control (Bytes.load c m).memory
  unfolding Bytes.load
  load_keeps h = unless_case (λ (r : After). OfLayout r.control r.memory) _ _ _ (λ _ _. h) (λ _. h)

  -- what stands for a machine has the copies that its log makes
  module _ (M : Machine) (h : Represents c m M) where
    f : Formed c m
    f = formed c m h.form

    -- L(n) from the sixth copy, for what is not retired
    made_from : (n : ℕ) → c.retired ≤ n → L M.log n ≡ LFrom (copy_at m.library 5) c.retired (logged c m.log) n
    unfolding LFrom
    made_from n l = L-from M.log c.retired n l ∙ rw (kept_log c m M h, ← h.base)

    same_copies : copies_form c m.library (logged c m.log) ≡ true
    same_copies = of_copies c m.library (logged c m.log) (record {
      primary = h.primary ∙ made_from c.commits (retired_known c m f);
      replicas = λ i l g. let n = few c m f in
          h.replicas i l (omega arith) ∙ made_from (nth c.applied i) (counts_of c i g (f.counts i l (omega arith))).kept;
    })

  pub load_simulates : (log : List Transaction) (sessions : List Session) → Represents c m (machine_of c log sessions)
      → Simulates (Bytes.load c m) (Plain.load (machine_of c log sessions))
  unfolding Bytes.load load_stop Plain.load
  load_simulates log sessions h =
      rw (memory_passes c m (load_rows (copies_form c m.library (logged c m.log)) (copy_at m.library 5) (logged c m.log)) h.form.lengths h.form.layout, same_copies _ h, kept_log c m _ h, ← h.base, log_length c m _ h)
      (unless_both Simulates (stopped (load_rows true (copy_at m.library 5) (logged c m.log))) _ _ _ _ (λ _ _. record { answer = refl; output = refl; next = h }) (λ _. record { answer = refl; output = refl; next = h }))
