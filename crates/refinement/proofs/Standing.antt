-- What bytes stand for: a machine that is sound, so that a list may begin there; and which bytes stand for one, those that load accepts.
use mathlib.Core.Path.{◌≡◌, refl, sym, ap, ◌∙◌}
use mathlib.Core.Bool.{Bool, true, false, not, ◌&&◌}
use mathlib.Core.List.{List, [], ◌∷◌, ◌++◌, map}
use Prim.Native.Nat.{ℕ, zero, suc, ◌+◌, ◌*◌, ◌-◌, ◌≤◌, ◌<◌}
use native.Mathlib.Omega.{arith}
use native.Mathlib.Decide.{ℕ_discrete, dec_le}
use lib.Dec.{eqb}
use lib.ListN.{length, get_or, length-map, get_or-eq_default}
use lib.Seq.{take_at, drop_at}
use borrow.Author.Tests.{eq-eqb, lt-leb}
use Rattle.carts.specs.Bytes.{zeros, every, all_zero}
use Rattle.carts.specs.Transaction.{Transaction, replay, L, LFrom, met_from}
use Rattle.carts.proofs.TestLaws.{at_every}
use Rattle.carts.proofs.ZeroLaws.{zeros_of}
use Rattle.carts.proofs.OperationLaws.{Operations, forms_fields}
use Rattle.replication.specs.Answer.{refused, done}
use Rattle.replication.specs.Memory.{Memory, Arrays, copy_at, session_at, sequence_of, nth, studio_of}
use Rattle.replication.specs.Log.{log_count, logged}
use Rattle.edit_log.specs.Log.{transaction_at, handed_in, transactions_from, walk, up_from}
use Rattle.replication.specs.Request.{nothing, request_of}
use Rattle.replication.specs.Layout.{replica_form, sixth_form}
use Rattle.replication.specs.Rows.{Row, stopped, unless, load_rows, copies_form, load_stop}
use Rattle.replication.specs.Calls as Bytes
use Rattle.replication.specs.declared.control.Control.{Control}
use Rattle.replication.proofs.CopyLaws.{length_copy_at}
use Rattle.replication.proofs.RowLaws.{memory_passes}
use Rattle.replication.proofs.DecideLaws.{KnownSession}
use Rattle.replication.proofs.Formed.{Formed, counts_of, counts_known, counts_none, retired_known, studio_known, few}
use Rattle.replication.proofs.LoadLaws.{Copies, load_passed}
use Rattle.replication.proofs.LogLaws.{transaction_operations}
use Rattle.edit_log.proofs.UpFromLaws.{length_up_from}
use Rattle.replication.proofs.ShownLaws.{Askable, waiting_askable}
use Rattle.edit_log.proofs.TransactionLaws.{handed_operations, length_transactions, transactions_at}
use Rattle.machine.specs.Machine as Plain
use Rattle.machine.specs.Machine.{Session, session, Machine, Step, commits}
use Rattle.machine.proofs.Libraries.{L-from}
use Rattle.machine.proofs.MetLaws.{load_accepts}
use Rattle.machine.proofs.Sort.{All}
use Rattle.machine.proofs.Sound.{Sound}
use Rattle.refinement.specs.Represents.{OfLayout, fields_form, Represents, Stands, Simulates}
use Rattle.refinement.proofs.Represented.{machine_of, by_machine, log_length, kept_log}
use Rattle.refinement.proofs.Transactions.{operations_form, all_operations, all_append}
use Rattle.refinement.proofs.Made.{makers, length_makers, makers_operations, made_by}
use Rattle.refinement.proofs.Retire.{sixth_copy}
use Rattle.refinement.proofs.Sessions.{shown, own_bytes, own_sequence, unused_bytes, empty_sequence, empty_request}
use Rattle.refinement.proofs.Arrays.{formed, of_layout_law}
use Rattle.refinement.proofs.Load.{load_simulates}

-- each element of a list by its place
all_of : {A : Type 0} (P : A → Type 0) (l : List A) (d : A) → ((k : ℕ) → k < length l → P (get_or l k d)) → All P l
all_of P [] d f = tt
all_of P (x ∷ l) d f = (f 0 (omega arith), all_of P l d (λ k u. f (suc k) (omega arith)))

-- a list of the sessions 1 to n, by their number
listed : (f : ℕ → Session) (d : Session) (r n k : ℕ) → k < n → get_or (map f (up_from r n)) k d ≡ f (r + k)
unfolding up_from
listed f d r zero k h = let z : ⊥ = omega arith in absurd z
listed f d r (suc n) zero h = let e : r ≡ r + 0 = omega arith in ap f e
listed f d r (suc n) (suc k) h = let e : r + 1 + k ≡ r + suc k = omega arith in listed f d (r + 1) n k (omega arith) ∙ ap f e

module _ (c : Control) (m : Memory) (f : Formed c m) where
  -- the log's transactions are of their form
  pub log_operations : All Operations (logged c m.log)
  unfolding log_count
  log_operations = all_of Operations (logged c m.log) [] (λ k u.
      let n = length_transactions (c.commits - c.retired) m.log c.oldest in
      let l : c.retired + k < c.commits = omega arith in
      let e : c.retired + k - c.retired ≡ k = omega arith in
      let o = handed_operations (transaction_at m.log (walk k m.log c.oldest)) (rw e at (transaction_operations c m f (c.retired + k) (omega arith) l)) in
      rw (transactions_at (c.commits - c.retired) m.log c.oldest k (omega arith)) (record { sizes = o.0; fields = forms_fields _ o.1 }))

  -- a session, in use or not: its number is known, and it waits for carts that there are
  session_sound : (s : ℕ) → 1 ≤ s → s ≤ 16 → (sequence_of (session_at m.sessions s) ≤ c.commits) × Askable (request_of (session_at m.sessions s))
  session_sound s l g = go (ℕ_discrete (studio_of c s) 0)
    where
      go : Dec (studio_of c s ≡ 0) → (sequence_of (session_at m.sessions s) ≤ c.commits) × Askable (request_of (session_at m.sessions s))
      go (yes e) = rw (unused_bytes c m.sessions f.sessions s l g e, empty_sequence, empty_request) (omega arith, tt)
      go (no n) =
          let w : KnownSession s (studio_of c s) = record { low = l; high = g; used = n } in
          (own_sequence c m.sessions f.sessions s w, waiting_askable _ (own_bytes c m.sessions f.sessions s w).form)

  -- a studio that is not in use has the copy that no transaction makes
  unused_copy : (log : List Transaction) (i : ℕ) → c.studios < i → 1 ≤ i → i ≤ 4 → copy_at m.library i ≡ L log (nth c.applied i)
  unfolding replica_form L replay
  unused_copy log i u l g =
      let empty : all_zero (copy_at m.library i) ≡ true = rw (lt-leb i c.studios u) at (f.library.copies i g) in
      let size = length_copy_at m.library f.library.size i (omega arith) in
      rw (counts_none c i u (f.counts i l g)).1 (zeros_of _ empty ∙ ap zeros size)

module _ (c : Control) (m : Memory) (M : Machine) (h : Represents c m M) where
  f : Formed c m
  f = formed c m h.form

  -- what is so of the sessions 1 to 16, and of one that is not there
  each_session : (P : Session → Type 0) → P (session 0 0 nothing) → ((s : ℕ) → 1 ≤ s → s ≤ 16 → P (shown c m.sessions s)) → (k : ℕ) → P (get_or M.sessions k (session 0 0 nothing))
  each_session P none some k = go (dec_le (suc k) 16)
    where
      go : Dec (suc k ≤ 16) → P (get_or M.sessions k (session 0 0 nothing))
      go (yes u) =
          let e : suc k - 1 ≡ k = omega arith in
          let there = rw e at (h.sessions (suc k) (omega arith) u) in
          rw there (some (suc k) (omega arith) u)
      go (no u) =
          let past : length M.sessions ≤ k = let n = h.count in omega arith in
          rw (get_or-eq_default M.sessions (session 0 0 nothing) past) none

  -- and of the counts of the studios 1 to 4
  each_counts : (P : ℕ → ℕ → Type 0) → P 0 0 → ((i : ℕ) → 1 ≤ i → i ≤ 4 → P (nth c.applied i) (nth c.sent i)) → (k : ℕ) → P (get_or M.applied k 0) (get_or M.sent k 0)
  each_counts P none some k = rw (h.applied, h.sent) (go (dec_le (suc k) 4))
    where
      go : Dec (suc k ≤ 4) → P (get_or c.applied k 0) (get_or c.sent k 0)
      go (yes u) = let e : suc k - 1 ≡ k = omega arith in rw e at (some (suc k) (omega arith) u)
      go (no u) =
          let applied : length c.applied ≤ k = let n = h.form.arrays.applied in omega arith in
          let sent : length c.sent ≤ k = let n = h.form.arrays.sent in omega arith in
          rw (get_or-eq_default c.applied 0 applied, get_or-eq_default c.sent 0 sent) none

  pub represents_sound : Sound M
  represents_sound = record {
    sixteen = h.count;
    applied_le = each_counts (λ a s. a ≤ s) (omega arith) (λ i l g. (counts_known c i (f.counts i l g)).0);
    sent_le = each_counts (λ a s. s ≤ commits M) (omega arith) (λ i l g. rw (log_length c m M h) (counts_known c i (f.counts i l g)).1);
    number_le = each_session (λ x. x.number ≤ commits M) (omega arith) (λ s l g. rw (log_length c m M h) (session_sound c m f s l g).0);
    formed = rw h.log (all_append h.old (logged c m.log) (all_operations h.old h.whole) (log_operations c m f));
    askable = each_session (λ x. Askable x.waiting) tt (λ s l g. (session_sound c m f s l g).1);
    retired_le = λ i l g. rw (h.retired, h.applied) (let u : i ≤ c.studios = rw h.studios at g in (counts_of c i u (f.counts i l (let n = few c m f in omega arith))).kept);
    retired_commits = rw (h.retired, log_length c m M h) (retired_known c m f);
    placed = each_session (λ x. x.studio ≤ M.studios) (omega arith) (λ s l g. rw h.studios (studio_known c m f s h.form.arrays.session_studios g));
  }

-- the machine that bytes stand for, where the copies are what the log makes
module _ (c : Control) (m : Memory) (a : Arrays c) (f : Formed c m) (x : Copies c m.library (logged c m.log)) where
  -- the retired transactions are not known: others that make the sixth copy stand for them
  old : List Transaction
  old = makers c.retired (copy_at m.library 5)

  log : List Transaction
  log = old ++ logged c m.log

  many : length old ≡ c.retired
  unfolding old
  many = length_makers c.retired (copy_at m.library 5)

  empty_sixth : c.retired ≡ 0 → all_zero (copy_at m.library 5) ≡ true
  unfolding sixth_form
  empty_sixth e = rw (eq-eqb c.retired 0 e) at f.library.sixth

  base_made : L log c.retired ≡ copy_at m.library 5
  unfolding L log old
  base_made = ap (replay (zeros 10240)) (take_at old (logged c m.log) c.retired many) ∙ made_by c.retired (copy_at m.library 5) (sixth_copy c m f) empty_sixth

  later_made : (n : ℕ) → c.retired ≤ n → LFrom (copy_at m.library 5) c.retired (logged c m.log) n ≡ L log n
  unfolding LFrom log
  later_made n l = sym (L-from log c.retired n l ∙ rw (base_made, drop_at old (logged c m.log) c.retired many))

  whole : every fields_form old ≡ true
  unfolding old
  whole = at_every fields_form old [] (λ k l. operations_form _ (makers_operations c.retired (copy_at m.library 5) (sixth_copy c m f) k (let n = many in omega arith)))

  abbrev machine_at : Machine
  machine_at = machine_of c log (map (shown c m.sessions) (up_from 1 16))

  represents_at : Represents c m machine_at
  unfolding log
  represents_at = record {
    form = of_layout_law c m a f;
    studios = refl;
    old = old;
    many = many;
    whole = whole;
    log = refl;
    retired = refl;
    sent = refl;
    applied = refl;
    count = length-map (up_from 1 16) (shown c m.sessions) ∙ length_up_from 1 16;
    sessions = λ s l g. let e : 1 + (s - 1) ≡ s = omega arith in listed (shown c m.sessions) _ 1 16 (s - 1) (omega arith) ∙ ap (shown c m.sessions) e;
    primary = x.primary ∙ later_made c.commits (retired_known c m f);
    replicas = λ i l g. replica i l g (dec_le i c.studios);
    base = sym base_made;
  }
    where
      replica : (i : ℕ) → 1 ≤ i → i ≤ 4 → Dec (i ≤ c.studios) → copy_at m.library i ≡ L log (nth c.applied i)
      replica i l g (yes u) = x.replicas i l u ∙ later_made (nth c.applied i) (counts_of c i u (f.counts i l g)).kept
      replica i l g (no u) = unused_copy c m f log i (omega arith) l g

-- LOAD accepts exactly what stands for a state of the machine in which each logged operation met its cart
module _ (c : Control) (m : Memory) where
  pub load_stands : (n : ℕ) → Arrays c → (Bytes.load c m).answer ≡ done n → Stands c m
  load_stands n a e =
      let x = load_passed c m n e in
      record { state = machine_at c m a x.formed x.copies; represents = represents_at c m a x.formed x.copies; met = rw (kept_log c m _ (represents_at c m a x.formed x.copies), base_made c m a x.formed x.copies) x.met }

  pub load_same : (M : Machine) → Represents c m M → Simulates (Bytes.load c m) (Plain.load M)
  load_same = by_machine c m (λ (M : Machine). Simulates (Bytes.load c m) (Plain.load M)) (load_simulates c m)

  pub stands_load : Stands c m → (Bytes.load c m).answer ≡ done c.commits
  stands_load s = (load_same s.state s.represents).answer ∙ ap (λ (r : Step). r.answer) (load_accepts s.state s.met) ∙ ap done (log_length c m s.state s.represents)

  -- what is of the layout and does not stand for one is refused by 19
  pub refused_19 : OfLayout c m → (Stands c m → ⊥) → (Bytes.load c m).answer ≡ refused 19
  unfolding Bytes.load load_stop load_rows stopped unless
  refused_19 h n = go (copies_form c m.library (logged c m.log) && met_from (copy_at m.library 5) (logged c m.log)) refl
    where
      rows : List Row
      rows = load_rows (copies_form c m.library (logged c m.log)) (copy_at m.library 5) (logged c m.log)

      go : (b : Bool) → (copies_form c m.library (logged c m.log) && met_from (copy_at m.library 5) (logged c m.log)) ≡ b → (Bytes.load c m).answer ≡ refused 19
      go true e = absurd (n (load_stands c.commits h.arrays (rw (memory_passes c m rows h.lengths h.layout, e))))
      go false e = rw (memory_passes c m rows h.lengths h.layout, e)
