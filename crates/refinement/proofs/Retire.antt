-- Retire (02, S-9): it keeps the layout, and does what the plain machine's retire does.
use mathlib.Core.Path.{◌≡◌, refl, sym, ap, ◌∙◌}
use mathlib.Core.Logic.{◌≢◌}
use mathlib.Core.Bool.{Bool, true, false, cond}
use native.Mathlib.Decide.{dec_le}
use mathlib.Core.List.{List, [], ◌∷◌, ◌++◌, map, append_assoc}
use Prim.Native.Nat.{ℕ, ◌+◌, ◌-◌, ◌≤◌, ◌<◌}
use native.Mathlib.Omega.{arith}
use lib.Dec.{eqb}
use lib.ListN.{length, get_or, length-append}
use borrow.Author.Tests.{ne_eqb}
use Rattle.carts.specs.Bytes.{all_zero}
use Rattle.carts.specs.Cart.{copy_form}
use Rattle.carts.specs.Operation.{act_all}
use Rattle.carts.specs.Transaction.{Transaction, L}
use Rattle.carts.proofs.OperationLaws.{Operations, forms_fields}
use Rattle.carts.proofs.KeepLaws.{Copy, act_all_copy, copy_empty}
use Rattle.edit_log.specs.Log.{transaction_at, handed_in, walk}
use Rattle.edit_log.specs.Writes.{released}
use Rattle.edit_log.proofs.TransactionLaws.{handed_act_all, handed_operations}
use Rattle.replication.specs.Memory.{Memory, Arrays, copy_at, with_copy, nth, studio_of}
use Rattle.replication.specs.Log.{logged}
use Rattle.replication.specs.Layout.{sixth_form, session_form, counts_form}
use Rattle.replication.specs.Rows.{Row, stopped, retire_rows, retire_stop}
use Rattle.replication.specs.Calls as Bytes
use Rattle.replication.specs.Calls.{After, retired_control}
use Rattle.replication.specs.declared.control.Control.{Control}
use Rattle.replication.proofs.CopyLaws.{length_copy_at, length_with_copy, copy_same, copy_other}
use Rattle.replication.proofs.LogLaws.{transaction_operations, retired_log, oldest_first}
use Rattle.replication.proofs.Formed.{Formed, counts_of, of_counts, none_kept}
use Rattle.replication.proofs.RowLaws.{memory_passes, unless_case, unless_both}
use Rattle.replication.proofs.Accepted.{RetireAccepted, retire_passed}
use Rattle.machine.specs.Machine as Plain
use Rattle.machine.specs.Machine.{Session, with_retired}
use Rattle.machine.proofs.Libraries.{L-next}
use Rattle.refinement.specs.Represents.{OfLayout, fields_form, Represents, Simulates}
use Rattle.refinement.proofs.Represented.{machine_of, log_length, log_at}
use Rattle.refinement.proofs.Transactions.{every_snoc, operations_form}
use Rattle.refinement.proofs.Arrays.{arrays, formed, of_layout_law}

-- memory after a retire
abbrev left : Control → Memory → Memory
left c m = record {
  library = with_copy m.library 5 (act_all (copy_at m.library 5) (transaction_at m.log c.oldest));
  log = released m.log c.oldest c.free_last;
  sessions = m.sessions;
}

-- the sixth copy has the form of a copy, whatever is retired
pub sixth_copy : (c : Control) (m : Memory) → Formed c m → Copy (copy_at m.library 5)
unfolding sixth_form
sixth_copy c m f = record { size = length_copy_at m.library f.library.size 5 (omega arith); form = form (eqb c.retired 0) f.library.sixth }
  where
    form : (b : Bool) → cond b (all_zero (copy_at m.library 5)) (copy_form (copy_at m.library 5)) ≡ true → copy_form (copy_at m.library 5) ≡ true
    form true e = copy_empty _ e
    form false e = e

module _ (c : Control) (m : Memory) where
  rows : List Row
  rows = retire_rows c.studios c.retired c.commits c.applied

  abbrev next : Control
  next = retired_control c m.log

  -- the operations of the oldest transaction
  abbrev ops : List (List ℕ)
  ops = transaction_at m.log c.oldest

  -- a retire that no row stops
  module _ (a : Arrays c) (f : Formed c m) (p : RetireAccepted c.studios c.retired c.commits c.applied) where
    here : walk (c.retired - c.retired) m.log c.oldest ≡ c.oldest
    unfolding walk
    here = let z : c.retired - c.retired ≡ 0 = omega arith in rw z

    operations : Operations ops
    operations = rw here at (transaction_operations c m f c.retired (omega arith) p.some)

    copy : Copy (act_all (copy_at m.library 5) ops)
    copy = act_all_copy _ _ (sixth_copy c m f) operations

    same_copy : copy_at (left c m).library 5 ≡ act_all (copy_at m.library 5) ops
    same_copy = copy_same m.library f.library.size 5 (omega arith) _ copy.size

    other_copy : (j : ℕ) → j ≢ 5 → copy_at (left c m).library j ≡ copy_at m.library j
    other_copy = copy_other m.library f.library.size 5 (omega arith) _ copy.size

    retired_arrays : Arrays next
    unfolding retired_control
    retired_arrays = record { session_studios = a.session_studios; sent = a.sent; applied = a.applied }

    retired_formed : Formed next (left c m)
    unfolding retired_control session_form studio_of sixth_form
    retired_formed = record {
      control = f.control;
      library = record {
        size = length_with_copy m.library f.library.size 5 (omega arith) _ copy.size;
        copies = λ j l. rw (other_copy j (omega arith)) (f.library.copies j l);
        sixth = rw (same_copy, ne_eqb (c.retired + 1) 0 (λ z. omega arith)) copy.form;
      };
      log = retired_log c m f p.some;
      sessions = f.sessions;
      counts = λ i l g. count i l g (dec_le i c.studios);
    }
      where
        count : (i : ℕ) → 1 ≤ i → i ≤ 4 → Dec (i ≤ c.studios) → counts_form next i ≡ true
        count i l g (yes u) =
            let k = counts_of c i u (f.counts i l g) in
            let n = p.unneeded i l u in
            of_counts next i u (record { order = k.order; known = k.known; near = k.near; kept = omega arith })
        count i l g (no u) = none_kept c next i (omega arith) refl refl refl (f.counts i l g)

    -- the oldest transaction, as it was handed in, is the one after the retired ones
    abbrev text : Transaction
    text = map handed_in ops

    first_text : logged c m.log ≡ text ∷ logged next (left c m).log
    first_text = oldest_first c m f p.some

    retire_represents : (log : List Transaction) (sessions : List Session) → Represents c m (machine_of c log sessions) → Represents next (left c m) (with_retired (machine_of c log sessions) (c.retired + 1))
    unfolding retired_control studio_of
    retire_represents log sessions h = record {
      form = of_layout_law _ _ retired_arrays retired_formed;
      studios = refl;
      old = h.old ++ (text ∷ []);
      whole = every_snoc fields_form h.old text h.whole (operations_form text (let o = handed_operations ops operations in record { sizes = o.0; fields = forms_fields text o.1 }));
      many = length-append h.old (text ∷ []) ∙ ap (λ (n : ℕ). n + 1) h.many;
      log = h.log ∙ ap (λ (z : List Transaction). h.old ++ z) first_text ∙ sym (append_assoc h.old (text ∷ []) (logged next (left c m).log));
      retired = refl;
      sent = refl;
      applied = refl;
      count = h.count;
      sessions = h.sessions;
      primary = other_copy 0 (omega arith) ∙ h.primary;
      replicas = λ j l g. other_copy j (omega arith) ∙ h.replicas j l g;
      base = same_copy ∙ level;
    }
      where
        n : c.retired < length log
        n = rw (log_length c m _ h) p.some

        first : get_or log c.retired [] ≡ text
        first = log_at c m _ h c.retired (omega arith)
            ∙ (let z : c.retired - c.retired ≡ 0 = omega arith in rw (first_text, z))

        level : act_all (copy_at m.library 5) ops ≡ L log (c.retired + 1)
        level = ap (λ (z : List ℕ). act_all z ops) h.base
            ∙ sym (L-next log c.retired n ∙ ap (act_all (L log c.retired)) first ∙ handed_act_all (L log c.retired) ops operations.sizes)

  pub retire_keeps : OfLayout c m → OfLayout (Bytes.retire c m).control (Bytes.retire c m).memory
  unfolding Bytes.retire retire_stop rows
  retire_keeps h =
      rw (memory_passes c m rows h.lengths h.layout)
      (unless_case (λ (r : After). OfLayout r.control r.memory) (stopped rows) _ _ (λ _ _. h)
      (λ e. let p = retire_passed _ _ _ _ e in of_layout_law _ _ (retired_arrays (arrays c m h) (formed c m h) p) (retired_formed (arrays c m h) (formed c m h) p)))

  pub retire_simulates : (log : List Transaction) (sessions : List Session) → Represents c m (machine_of c log sessions)
      → Simulates (Bytes.retire c m) (Plain.retire (machine_of c log sessions))
  unfolding Bytes.retire retire_stop Plain.retire rows
  retire_simulates log sessions h =
      rw (memory_passes c m rows h.form.lengths h.form.layout, log_length c m _ h)
      (unless_both Simulates (stopped rows) _ _ _ _
      (λ _ _. record { answer = refl; output = refl; next = h })
      (λ e. record { answer = refl; output = refl; next = retire_represents (arrays c m h.form) (formed c m h.form) (retire_passed _ _ _ _ e) log sessions h }))
