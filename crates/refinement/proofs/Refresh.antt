-- Refresh: it keeps the layout, and does what the plain machine's refresh does.
use mathlib.Core.Path.{◌≡◌, refl, sym, ap, ◌∙◌}
use mathlib.Core.Logic.{◌≢◌}
use mathlib.Core.Bool.{true}
use mathlib.Core.List.{List, [], map}
use Prim.Native.Nat.{ℕ, ◌+◌, ◌-◌, ◌≤◌, ◌<◌}
use native.Mathlib.Omega.{arith}
use native.Mathlib.Decide.{ℕ_discrete}
use lib.ListN.{length, get_or, length-set}
use lib.Seq.{get_or-set_same, get_or-set_other}
use Rattle.carts.specs.Operation.{act_all}
use Rattle.carts.specs.Transaction.{Transaction, L}
use Rattle.carts.proofs.OperationLaws.{Operations}
use Rattle.carts.proofs.KeepLaws.{Copy, act_all_copy}
use Rattle.replication.specs.Memory.{Memory, Arrays, copy_at, with_copy, nth, studio_of}
use Rattle.replication.specs.Log.{log_count, transaction_after}
use Rattle.edit_log.specs.Log.{transaction_at, handed_in, transactions_from, walk}
use Rattle.replication.specs.Layout.{replica_form, session_form, counts_form}
use Rattle.replication.specs.Rows.{Row, stopped, refresh_rows, refresh_stop}
use Rattle.replication.specs.Calls as Bytes
use Rattle.replication.specs.Calls.{After, with_applied, with_library}
use Rattle.replication.specs.declared.control.Control.{Control}
use Rattle.replication.proofs.CopyLaws.{length_copy_at, length_with_copy, copy_same, copy_other}
use Rattle.replication.proofs.LogLaws.{transaction_operations}
use Rattle.replication.proofs.Formed.{Formed, Counts, counts_of, of_counts, few, studio_copy, copy_in_use}
use Rattle.replication.proofs.RowLaws.{memory_passes, unless_case, unless_both}
use Rattle.replication.proofs.Accepted.{RefreshAccepted, refresh_passed}
use Rattle.edit_log.proofs.TransactionLaws.{length_transactions, transactions_at, handed_act_all}
use Rattle.machine.specs.Machine as Plain
use Rattle.machine.specs.Machine.{Session, Machine}
use Rattle.machine.proofs.Libraries.{L-next}
use Rattle.refinement.specs.Represents.{OfLayout, Represents, Simulates}
use Rattle.refinement.proofs.Represented.{machine_of, log_length, log_at}
use Rattle.refinement.proofs.Arrays.{arrays, formed, of_layout_law}

-- the copy of studio i, and the library with it, after transaction applied + 1
abbrev refreshed_copy : Control → Memory → ℕ → List ℕ
refreshed_copy c m i = act_all (copy_at m.library i) (transaction_after c m.log (nth c.applied i))

abbrev refreshed : Control → Memory → ℕ → Memory
refreshed c m i = with_library m (with_copy m.library i (refreshed_copy c m i))

module _ (c : Control) (m : Memory) (i : ℕ) where
  rows : List Row
  rows = refresh_rows c.studios i (nth c.sent i) (nth c.applied i)

  -- a refresh that no row stops
  module _ (a : Arrays c) (f : Formed c m) (p : RefreshAccepted c.studios i (nth c.sent i) (nth c.applied i)) where
    four : i ≤ 4
    four = let n = few c m f in let w = p.who in omega arith

    five : i ≤ 5
    five = let l = four in omega arith

    counted : Counts c i
    counted = counts_of c i p.who.high (f.counts i p.who.low four)

    ready : nth c.applied i < c.commits
    ready = let k = counted in let n = p.behind in omega arith

    operations : Operations (transaction_after c m.log (nth c.applied i))
    unfolding transaction_after
    operations = transaction_operations c m f _ counted.kept ready

    copy : Copy (refreshed_copy c m i)
    copy =
        act_all_copy _ _
        (record { size = length_copy_at m.library f.library.size i five; form = copy_in_use c.studios i _ p.who.high (f.library.copies i four) })
        operations

    same_copy : copy_at (refreshed c m i).library i ≡ refreshed_copy c m i
    same_copy = copy_same m.library f.library.size i five _ copy.size

    other_copy : (j : ℕ) → j ≢ i → copy_at (refreshed c m i).library j ≡ copy_at m.library j
    other_copy = copy_other m.library f.library.size i five _ copy.size

    same_applied : nth (with_applied c i (nth c.applied i + 1)).applied i ≡ nth c.applied i + 1
    unfolding with_applied
    same_applied = let n = a.applied in let k = four in let w = p.who in get_or-set_same c.applied (i - 1) _ 0 (omega arith)

    other_applied : (j : ℕ) → 1 ≤ j → j ≢ i → nth (with_applied c i (nth c.applied i + 1)).applied j ≡ nth c.applied j
    unfolding with_applied
    other_applied j l ne = let w = p.who in get_or-set_other c.applied (i - 1) (j - 1) _ 0 (omega arith)

    refreshed_arrays : Arrays (with_applied c i (nth c.applied i + 1))
    unfolding with_applied
    refreshed_arrays = record { session_studios = a.session_studios; sent = a.sent; applied = length-set c.applied (i - 1) (nth c.applied i + 1) ∙ a.applied }

    refreshed_formed : Formed (with_applied c i (nth c.applied i + 1)) (refreshed c m i)
    unfolding with_applied log_count session_form studio_of counts_form
    refreshed_formed = record {
      control = f.control;
      library = record { size = length_with_copy m.library f.library.size i five _ copy.size; copies = λ j g. copies j g (ℕ_discrete j i); sixth = rw (other_copy 5 (let w = four in omega arith)) f.library.sixth };
      log = f.log;
      sessions = f.sessions;
      counts = λ j l g. count j l g (ℕ_discrete j i);
    }
      where
        copies : (j : ℕ) → j ≤ 4 → Dec (j ≡ i) → replica_form c.studios j (copy_at (refreshed c m i).library j) ≡ true
        copies j g (yes e) = rw (e, same_copy) (studio_copy c.studios i _ p.who.high copy.form)
        copies j g (no ne) = rw (other_copy j ne) (f.library.copies j g)

        count : (j : ℕ) → 1 ≤ j → j ≤ 4 → Dec (j ≡ i) → counts_form (with_applied c i (nth c.applied i + 1)) j ≡ true
        count j l g (yes e) =
            let k = counted in
            let n = p.behind in
            let o : nth c.applied i + 1 ≤ nth c.sent i = omega arith in
            let b : nth c.sent i - (nth c.applied i + 1) ≤ 32 = omega arith in
            rw e
            (of_counts (with_applied c i (nth c.applied i + 1)) i p.who.high
            (record { order = rw same_applied o; known = k.known; near = rw same_applied b; kept = rw same_applied (let l = k.kept in omega arith) }))
        count j l g (no ne) = rw (other_applied j l ne) (f.counts j l g)

    -- the copy stands for one transaction more
    level : (M : Machine) → Represents c m M → refreshed_copy c m i ≡ L M.log (nth c.applied i + 1)
    unfolding transaction_after log_count
    level M h =
        let log = M.log in
        let k = nth c.applied i in
        let l = counted.kept in
        let n : k < length log = rw (log_length c m M h) ready in
        let t : get_or log k [] ≡ map handed_in (transaction_at m.log (walk (k - c.retired) m.log c.oldest))
        = log_at c m M h k l ∙ transactions_at (c.commits - c.retired) m.log c.oldest (k - c.retired) (let r = ready in omega arith) in
        ap (λ (z : List ℕ). act_all z (transaction_after c m.log k)) (h.replicas i p.who.low four)
        ∙ sym (L-next log k n ∙ ap (act_all (L log k)) t ∙ handed_act_all (L log k) (transaction_after c m.log k) operations.sizes)

  pub refresh_keeps : OfLayout c m → OfLayout (Bytes.refresh c m i).control (Bytes.refresh c m i).memory
  unfolding Bytes.refresh refresh_stop rows
  refresh_keeps h =
      rw (memory_passes c m rows h.lengths h.layout)
      (unless_case (λ (r : After). OfLayout r.control r.memory) (stopped rows) _ _ (λ _ _. h)
      (λ e. let p = refresh_passed _ _ _ _ e in of_layout_law _ _ (refreshed_arrays (arrays c m h) (formed c m h) p) (refreshed_formed (arrays c m h) (formed c m h) p)))

  pub refresh_simulates : (log : List Transaction) (sessions : List Session) → Represents c m (machine_of c log sessions)
      → Simulates (Bytes.refresh c m i) (Plain.refresh (machine_of c log sessions) i)
  unfolding Bytes.refresh refresh_stop Plain.refresh rows with_applied log_count studio_of
  refresh_simulates log sessions h =
      rw (memory_passes c m rows h.form.lengths h.form.layout)
      (unless_both Simulates (stopped rows) _ _ _ _
      (λ _ _. record { answer = refl; output = refl; next = h })
      (λ e. record { answer = refl; output = refl; next = next (arrays c m h.form) (formed c m h.form) (refresh_passed _ _ _ _ e) }))
    where
      n : ℕ
      n = nth c.applied i + 1

      next : Arrays c → Formed c m → RefreshAccepted c.studios i (nth c.sent i) (nth c.applied i)
          → Represents (with_applied c i n) (refreshed c m i) (machine_of (with_applied c i n) log sessions)
      next a f p = record {
        form = of_layout_law _ _ (refreshed_arrays a f p) (refreshed_formed a f p);
        studios = refl;
        old = h.old;
        many = h.many;
        whole = h.whole;
        log = h.log;
        retired = refl;
        sent = refl;
        applied = refl;
        count = h.count;
        sessions = h.sessions;
        primary = other_copy a f p 0 (let w = p.who in omega arith) ∙ h.primary;
        replicas = λ j l g. replica j l g (ℕ_discrete j i);
        base = other_copy a f p 5 (let w = four a f p in omega arith) ∙ h.base;
      }
        where
          replica : (j : ℕ) → 1 ≤ j → j ≤ 4 → Dec (j ≡ i) → copy_at (refreshed c m i).library j ≡ L log (nth (with_applied c i n).applied j)
          replica j l g (yes e) = rw (e, same_applied a f p) (same_copy a f p ∙ level a f p (machine_of c log sessions) h)
          replica j l g (no ne) = rw (other_applied a f p j l ne) (other_copy a f p j ne ∙ h.replicas j l g)
