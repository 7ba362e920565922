-- Commit: it keeps the layout, and does what the plain machine's commit does.
use mathlib.Core.Path.{◌≡◌, refl, sym, ap, ◌∙◌, subst}
use mathlib.Core.Logic.{◌≢◌}
use mathlib.Core.Bool.{true, cond}
use mathlib.Core.List.{List, [], ◌∷◌, ◌++◌, append_assoc}
use Prim.Native.Nat.{ℕ, ◌+◌, ◌-◌, ◌≤◌, ◌<◌}
use native.Mathlib.Omega.{arith}
use native.Mathlib.Decide.{ℕ_discrete}
use lib.ListN.{length, drop, set, length-set}
use Rattle.carts.specs.Operation.{operations_of, act_all}
use Rattle.carts.specs.Transaction.{Transaction, L, records_used}
use Rattle.carts.proofs.OperationLaws.{Operations, operations_of_law}
use Rattle.carts.proofs.KeepLaws.{Copy, act_all_copy}
use Rattle.replication.specs.Memory.{Memory, Arrays, copy_at, with_copy, session_at, with_number, nth, studio_of}
use Rattle.edit_log.specs.Log.{follow}
use Rattle.replication.specs.Log.{log_count, logged}
use Rattle.edit_log.specs.Writes.{appended}
use Rattle.replication.specs.Request.{request_of}
use Rattle.replication.specs.Layout.{replica_form}
use Rattle.replication.specs.Rows.{Row, stopped, commit_rows, commit_stop}
use Rattle.replication.specs.Calls as Bytes
use Rattle.replication.specs.Calls.{After, with_sessions, told_sessions, committed}
use Rattle.replication.specs.declared.control.Control.{Control}
use Rattle.replication.proofs.CopyLaws.{length_copy_at, length_with_copy, copy_same, copy_other}
use Rattle.replication.proofs.CommitLaws.{operations_few}
use Rattle.edit_log.proofs.WriteLaws.{Givens, givens}
use Rattle.replication.proofs.LogLaws.{log_used, committed_log, committed_transactions}
use Rattle.replication.proofs.Formed.{Formed, applied_known, retired_known, counts_more, studio_copy, copy_in_use}
use Rattle.replication.proofs.RowLaws.{memory_passes, unless_case, unless_both}
use Rattle.replication.proofs.DecideLaws.{KnownSession}
use Rattle.replication.proofs.Accepted.{commit_passed, commit_told}
use Rattle.machine.specs.Machine as Plain
use Rattle.machine.specs.Machine.{Session, session, Machine}
use Rattle.machine.proofs.Updates.{eqb_case}
use Rattle.machine.proofs.Libraries.{L-before, L-after}
use Rattle.refinement.specs.Represents.{OfLayout, Represents, Simulates}
use Rattle.refinement.proofs.Transactions.{records_used_law}
use Rattle.refinement.proofs.Represented.{machine_of, log_length, kept_log}
use Rattle.refinement.proofs.Sessions.{SessionBytes, session_more, own_bytes, length_sessions, sessions_form, sessions_shown, session_of_law, session_formed, session_represents}
use Rattle.refinement.proofs.Arrays.{arrays, formed, of_layout_law}

-- control and memory after a commit
abbrev then : Control → Memory → List (List ℕ) → Control
then c m ops = committed c (length ops) (follow (length ops) m.log c.free_first)

abbrev left : Control → Memory → ℕ → List (List ℕ) → Memory
left c m s ops = record {
  library = with_copy m.library 0 (act_all (copy_at m.library 0) ops);
  log = appended (log_count c) m.log c.oldest c.free_first ops;
  sessions = with_number m.sessions s (c.commits + 1);
}

-- a commit that no row stops
module _ (c : Control) (m : Memory) (s : ℕ) (ops : List (List ℕ)) (a : Arrays c) (f : Formed c m) (w : KnownSession s (studio_of c s)) (o : Operations ops) (g : Givens ops)
    (k1 : 1 ≤ length ops) (k8 : length ops ≤ 8) (room : c.used + length ops ≤ 512) (more : c.commits < 65535) where
  primary : Copy (act_all (copy_at m.library 0) ops)
  primary =
      act_all_copy _ ops
      (record {
        size = length_copy_at m.library f.library.size 0 (omega arith);
        form = copy_in_use c.studios 0 _ (omega arith) (f.library.copies 0 (omega arith));
      })
      o

  same_copy : copy_at (left c m s ops).library 0 ≡ act_all (copy_at m.library 0) ops
  same_copy = copy_same m.library f.library.size 0 (omega arith) _ primary.size

  other_copy : (j : ℕ) → j ≢ 0 → copy_at (left c m s ops).library j ≡ copy_at m.library j
  other_copy = copy_other m.library f.library.size 0 (omega arith) _ primary.size

  own : SessionBytes (session_at m.sessions s)
  own = own_bytes c m.sessions f.sessions s w

  commit_arrays : Arrays (then c m ops)
  unfolding committed
  commit_arrays = record { session_studios = a.session_studios; sent = a.sent; applied = a.applied }

  commit_formed : Formed (then c m ops) (left c m s ops)
  unfolding committed studio_of
  commit_formed = record {
    control = record { studios = f.control.studios; places = f.control.places; few = omega arith };
    library = record {
      size = length_with_copy m.library f.library.size 0 (omega arith) _ primary.size;
      copies = λ j l. copies j l (ℕ_discrete j 0);
      sixth = rw (other_copy 5 (omega arith)) f.library.sixth;
    };
    log = committed_log c m f ops g k1 k8 room;
    sessions = record {
      size = length_sessions c m.sessions f.sessions.size s w _ _ own;
      forms = sessions_form (then c m ops) m.sessions f.sessions.size s w _ _ own (omega arith)
          (λ q a b. session_more c (length ops) _ q _ (f.sessions.forms q a b));
    };
    counts = λ i a b. counts_more c i (length ops) _ (f.counts i a b);
  }
    where
      copies : (j : ℕ) → j ≤ 4 → Dec (j ≡ 0) → replica_form c.studios j (copy_at (left c m s ops).library j) ≡ true
      copies j l (yes e) = rw (e, same_copy) (studio_copy c.studios 0 _ (omega arith) primary.form)
      copies j l (no ne) = rw (other_copy j ne) (f.library.copies j l)

  -- the head end's copy has reached one transaction more, and the replicas stand for what they stood for
  commit_represents : (log : List Transaction) (sessions : List Session) → Represents c m (machine_of c log sessions)
      → Represents (then c m ops) (left c m s ops)
      (machine_of c (log ++ (ops ∷ [])) (set sessions (s - 1) (session (studio_of c s) (c.commits + 1) (request_of (session_at m.sessions s)))))
  unfolding committed studio_of
  commit_represents log sessions h = record {
    form = of_layout_law _ _ commit_arrays commit_formed;
    studios = refl;
    old = h.old;
    many = h.many;
    whole = h.whole;
    log = ap (λ (z : List Transaction). z ++ (ops ∷ [])) h.log ∙ append_assoc h.old (logged c m.log) (ops ∷ [])
        ∙ ap (λ (z : List Transaction). h.old ++ z) (sym (committed_transactions c m f ops g k1 k8 room));
    retired = refl;
    sent = refl;
    applied = refl;
    count = length-set sessions (s - 1) _ ∙ h.count;
    sessions = sessions_shown (then c m ops) m.sessions f.sessions.size s w _ _ own sessions _ h.count h.sessions;
    primary = same_copy ∙ ap (λ (z : List ℕ). act_all z ops) h.primary ∙ level;
    replicas = λ j a b. other_copy j (omega arith) ∙ h.replicas j a b
        ∙ sym (L-before log ops (nth c.applied j) (rw (log_length c m _ h) (applied_known c j (f.counts j a b))));
    base = other_copy 5 (omega arith) ∙ h.base ∙ sym (L-before log ops c.retired (rw (log_length c m _ h) (retired_known c m f)));
  }
    where
      n : length log ≡ c.commits
      n = log_length c m _ h

      level : act_all (L log c.commits) ops ≡ L (log ++ (ops ∷ [])) (c.commits + 1)
      level = subst (λ k. act_all (L log k) ops ≡ L (log ++ (ops ∷ [])) (k + 1)) n (sym (L-after log ops))

module _ (c : Control) (m : Memory) (s : ℕ) (bytes : List ℕ) where
  rows : List Row
  rows = commit_rows s (studio_of c s) (request_of (session_at m.sessions s)) c.used c.commits (copy_at m.library 0) bytes

  -- a commit that row 8 stops, or another: its session has the number commits, or is as it was
  told_keeps : OfLayout c m → (n : ℕ) → stopped rows ≡ n → OfLayout c (with_sessions m (told_sessions m.sessions s c.commits n))
  unfolding told_sessions rows
  told_keeps h n e =
      let f = formed c m h in
      eqb_case (λ b. OfLayout c (with_sessions m (cond b (with_number m.sessions s c.commits) m.sessions))) n 8
      (λ u. let w = (commit_told _ _ _ _ _ _ _ (e ∙ u)).who in
      of_layout_law _ _ (arrays c m h) (session_formed c m s w (arrays c m h) f c.commits _ (own_bytes c m.sessions f.sessions s w) (omega arith)))
      (λ u. h)

  told_simulates : (log : List Transaction) (sessions : List Session) → let M = machine_of c log sessions in Represents c m M → (n : ℕ) → stopped rows ≡ n
      → Simulates (Bytes.refused_commit c m s n) (Plain.refused_commit M s n)
  unfolding Bytes.refused_commit told_sessions Plain.refused_commit rows
  told_simulates log sessions h n e =
      let M : Machine = machine_of c log sessions in
      let f = formed c m h.form in
      record {
        answer = refl;
        output = refl;
        next =
            eqb_case (λ b. Represents c (with_sessions m (cond b (with_number m.sessions s c.commits) m.sessions)) (cond b (Plain.told M s) M)) n 8
            (λ u. let w = (commit_told _ _ _ _ _ _ _ (e ∙ u)).who in
            rw (session_of_law c m _ h s, log_length c m _ h)
            (session_represents c m s w (arrays c m h.form) f c.commits _ (own_bytes c m.sessions f.sessions s w) (omega arith) log sessions h))
            (λ u. h);
      }

  pub commit_keeps : OfLayout c m → OfLayout (Bytes.commit c m s bytes).control (Bytes.commit c m s bytes).memory
  unfolding Bytes.commit commit_stop Bytes.refused_commit rows
  commit_keeps h =
      rw (memory_passes c m rows h.lengths h.layout)
      (unless_case (λ (r : After). OfLayout r.control r.memory) (stopped rows) _ _ (λ _ e. told_keeps h _ e)
      (λ e. let p = commit_passed _ _ _ _ _ _ _ e in
      let k = operations_few bytes p.size in
      let a = arrays c m h in
      let f = formed c m h in
      let o = operations_of_law bytes p.form in
      let g = givens bytes p.form in
      of_layout_law _ _ (commit_arrays c m s (operations_of bytes) a f p.who o g k.0 k.1 p.room p.few) (commit_formed c m s (operations_of bytes) a f p.who o g k.0 k.1 p.room p.few)))

  pub commit_simulates : (log : List Transaction) (sessions : List Session) → Represents c m (machine_of c log sessions)
      → Simulates (Bytes.commit c m s bytes) (Plain.commit (machine_of c log sessions) s bytes)
  unfolding Bytes.commit commit_stop Plain.commit rows
  commit_simulates log sessions h =
      rw (memory_passes c m rows h.form.lengths h.form.layout, session_of_law c m _ h s, log_length c m _ h, ← h.primary, used)
      (unless_both Simulates (stopped rows) _ _ _ _
      (λ _ e. told_simulates log sessions h _ e)
      (λ e. let p = commit_passed _ _ _ _ _ _ _ e in
      let k = operations_few bytes p.size in
      record {
        answer = refl;
        output = refl;
        next = commit_represents c m s (operations_of bytes) (arrays c m h.form) (formed c m h.form) p.who (operations_of_law bytes p.form) (givens bytes p.form) k.0 k.1 p.room p.few log sessions h;
      }))
    where
      used : records_used (drop c.retired log) ≡ c.used
      used = ap records_used (kept_log c m _ h) ∙ records_used_law (log_count c) m.log c.oldest ∙ log_used c m (formed c m h.form)
