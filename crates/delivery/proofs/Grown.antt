-- All committed transactions, the retired ones in front of those in the log: every call on bytes leaves them, or adds one; so does every list of calls.
use mathlib.Core.Path.{◌≡◌, refl, sym, ap, ◌∙◌, subst}
use mathlib.Core.List.{List, [], ◌∷◌, ◌++◌, append-nil, append_assoc}
use Prim.Native.Nat.{ℕ, ◌+◌}
use lib.Dec.{leb}
use lib.ListN.{length, length-append}
use Rattle.carts.specs.Operation.{operations_of}
use Rattle.carts.specs.Transaction.{Transaction}
use Rattle.carts.proofs.TestLaws.{by_cond}
use Rattle.carts.proofs.OperationLaws.{Operations}
use Rattle.edit_log.proofs.WriteLaws.{givens}
use Rattle.replication.specs.Memory.{Memory, session_at, sequence_of, nth, studio_of}
use Rattle.replication.specs.Log.{log_count, logged}
use Rattle.replication.specs.Request.{Request}
use Rattle.replication.specs.Rows.{commit_stop, retire_stop}
use Rattle.replication.specs.Call.{Call, commit, preview, send, refresh, read, collect, forward, write, move, load, retire, run, final}
use Rattle.replication.specs.Calls as Bytes
use Rattle.replication.specs.Calls.{After, with_sent, with_applied, with_studio, committed, retired_control}
use Rattle.replication.specs.declared.control.Control.{Control}
use Rattle.replication.proofs.CommitLaws.{operations_few}
use Rattle.replication.proofs.LogLaws.{committed_transactions, oldest_first}
use Rattle.replication.proofs.RowLaws.{unless_case}
use Rattle.replication.proofs.DecideLaws.{accepted}
use Rattle.replication.proofs.Accepted.{commit_passed, retire_passed}
use Rattle.machine.specs.OneCopy.{Event, Kind, writes, reads, collects, neither, kind_of, history}
use Rattle.machine.specs.Machine as Plain
use Rattle.machine.specs.Machine.{Machine, Step}
use Rattle.machine.proofs.Cases.{refused_case, block_case}
use Rattle.machine.proofs.Sort.{All, all_snoc}
use Rattle.refinement.proofs.Standing.{log_operations}
use Rattle.machine.proofs.Entries.{plain_history}
use Rattle.delivery.specs.Delivery.{added, added_in}

-- all transactions committed so far: so many retired ones, and those in the log
pub record Committed (retired : ℕ) (log all : List Transaction) : Type 0 where
  pub gone : List Transaction
  pub many : length gone ≡ retired
  pub same : all ≡ gone ++ log
  pub formed : All Operations gone

abbrev pub Whole : Control → List ℕ → List Transaction → Type 0
Whole c log all = Committed c.retired (logged c log) all

module _ (c : Control) (m : Memory) (all : List Transaction) (h : Whole c m.log all) where
  -- what a call leaves, by what it adds
  abbrev Left : Kind → After → Type 0
  Left kind r = Whole r.control r.memory.log (all ++ added kind r.answer)

  as_it_was : Whole c m.log (all ++ [])
  as_it_was = record { gone = h.gone; many = h.many; same = append-nil all ∙ h.same; formed = h.formed }

  commit_adds : (s : ℕ) (bytes : List ℕ) → Left (writes s bytes) (Bytes.commit c m s bytes)
  unfolding Bytes.commit commit_stop Bytes.refused_commit added committed
  commit_adds s bytes = unless_case (Left (writes s bytes)) _ _ _ (λ k e. as_it_was) (λ e.
      let (f, rows) = accepted c m _ e in
      let p = commit_passed _ _ _ _ _ _ _ rows in
      let k = operations_few bytes p.size in
      record {
        gone = h.gone;
        many = h.many;
        same = ap (λ (z : List Transaction). z ++ (operations_of bytes ∷ [])) h.same ∙ append_assoc h.gone (logged c m.log) (operations_of bytes ∷ [])
            ∙ ap (λ (z : List Transaction). h.gone ++ z) (sym (committed_transactions c m f (operations_of bytes) (givens bytes p.form) k.0 k.1 p.room));
        formed = h.formed;
      })

  retire_adds : Left neither (Bytes.retire c m)
  unfolding Bytes.retire retire_stop added retired_control
  retire_adds = unless_case (Left neither) _ _ _ (λ k e. as_it_was) (λ e.
      let (f, rows) = accepted c m _ e in
      let p = retire_passed _ _ _ _ rows in
      let first = oldest_first c m f p.some in
      record {
        gone = h.gone ++ (_ ∷ []);
        many = length-append h.gone (_ ∷ []) ∙ ap (λ (n : ℕ). n + 1) h.many;
        same = append-nil all ∙ h.same ∙ ap (λ (z : List Transaction). h.gone ++ z) first ∙ sym (append_assoc h.gone (_ ∷ []) _);
        formed = all_snoc Operations h.gone _ h.formed (rw first at (log_operations c m f)).0;
      })

  block_adds : (s : ℕ) (q : Request) (x : List ℕ) (behind : After) (out : List ℕ)
      → Whole behind.control behind.memory.log (all ++ []) → let r = Bytes.block c m s q x behind out in Whole r.control r.memory.log (all ++ [])
  unfolding Bytes.block_by Bytes.answer_from
  block_adds s q x behind out g =
      by_cond (λ (r : After). Whole r.control r.memory.log (all ++ [])) (leb (sequence_of (session_at m.sessions s)) (nth c.applied (studio_of c s))) _ behind (λ _. as_it_was) (λ _. g)

  call_adds : (x : Call) → Left (kind_of x) (Bytes.call c m x)
  unfolding Bytes.call_by Bytes.preview Bytes.send Bytes.refresh Bytes.read_by Bytes.collect_by Bytes.forward_by Bytes.write Bytes.move Bytes.load Bytes.answer_from with_sent with_applied with_studio log_count kind_of added
  call_adds (commit s bytes) = commit_adds s bytes
  call_adds (preview s bytes) = as_it_was
  call_adds (send i) = unless_case (Left neither) _ _ _ (λ _ _. as_it_was) (λ _. as_it_was)
  call_adds (refresh i) = unless_case (Left neither) _ _ _ (λ _ _. as_it_was) (λ _. as_it_was)
  call_adds (read s request out) = unless_case (Left (reads s request)) _ _ _ (λ _ _. as_it_was) (λ _. block_adds s _ _ _ out as_it_was)
  call_adds (collect s out) = unless_case (Left (collects s)) _ _ _ (λ _ _. as_it_was) (λ _. block_adds s _ _ _ out as_it_was)
  call_adds (forward s request out) = unless_case (Left (reads s request)) _ _ _ (λ _ _. as_it_was) (λ _. block_adds s _ _ _ out as_it_was)
  call_adds (write n out) = unless_case (Left neither) _ _ _ (λ _ _. as_it_was) (λ _. as_it_was)
  call_adds (move s i) = unless_case (Left neither) _ _ _ (λ _ _. as_it_was) (λ _. as_it_was)
  call_adds load = unless_case (Left neither) _ _ _ (λ _ _. as_it_was) (λ _. as_it_was)
  call_adds retire = retire_adds

pub list_adds : (H : List Call) (r : After) (all : List Transaction) → Whole r.control r.memory.log all
    → let left = Bytes.after_calls r H in Whole left.control left.memory.log (all ++ added_in (history r H))
unfolding run final history added_in
list_adds [] r all h = as_it_was r.control r.memory all h
list_adds (x ∷ H) r all h =
    let next = Bytes.call r.control r.memory x in
    let new = added (kind_of x) next.answer in
    subst (Whole _ _) (append_assoc all new (added_in (history next H))) (list_adds H next (all ++ new) (call_adds r.control r.memory all h x))

-- the transactions that a list adds, in two parts
pub added_joined : (E F : List Event) → added_in (E ++ F) ≡ added_in E ++ added_in F
unfolding added_in
added_joined [] F = refl
added_joined (e ∷ E) F = ap (λ (z : List Transaction). added (kind_of e.call) e.answer ++ z) (added_joined E F) ∙ sym (append_assoc (added (kind_of e.call) e.answer) (added_in E) (added_in F))

-- the plain machine's committed transactions, likewise
module _ (M : Machine) where
  abbrev Adds : Kind → Step → Type 0
  Adds kind r = r.next.log ≡ M.log ++ added kind r.answer

  none : M.log ≡ M.log ++ []
  none = sym (append-nil M.log)

  plain_adds : (x : Call) → Adds (kind_of x) (Plain.call M x)
  unfolding Plain.call Plain.commit Plain.preview Plain.send Plain.refresh Plain.read Plain.collect Plain.forward Plain.write Plain.move Plain.load Plain.retire Plain.answer_from Plain.wait kind_of added
  plain_adds (commit s bytes) = unless_case (Adds (writes s bytes)) _ _ _ (λ k e. refused_case (Adds (writes s bytes)) M s _ (λ u. none) (λ u. none)) (λ e. refl)
  plain_adds (preview s bytes) = none
  plain_adds (send i) = unless_case (Adds neither) _ _ _ (λ k e. none) (λ e. none)
  plain_adds (refresh i) = unless_case (Adds neither) _ _ _ (λ k e. none) (λ e. none)
  plain_adds (read s request out) = unless_case (Adds (reads s request)) _ _ _ (λ k e. none) (λ e. block_case M s _ _ out (Adds (reads s request)) (λ u. none) (λ u. none))
  plain_adds (collect s out) = unless_case (Adds (collects s)) _ _ _ (λ k e. none) (λ e. block_case M s _ _ out (Adds (collects s)) (λ u. none) (λ u. none))
  plain_adds (forward s request out) = unless_case (Adds (reads s request)) _ _ _ (λ k e. none) (λ e. block_case M s _ _ out (Adds (reads s request)) (λ u. none) (λ u. none))
  plain_adds (write n out) = unless_case (Adds neither) _ _ _ (λ k e. none) (λ e. none)
  plain_adds (move s i) = unless_case (Adds neither) _ _ _ (λ k e. none) (λ e. none)
  plain_adds load = unless_case (Adds neither) _ _ _ (λ k e. none) (λ e. none)
  plain_adds retire = unless_case (Adds neither) _ _ _ (λ k e. none) (λ e. none)

pub all_plain : (H : List Call) (p : Step) → (Plain.after_calls p H).next.log ≡ p.next.log ++ added_in (plain_history p H)
unfolding run final plain_history added_in
all_plain [] p = none p.next
all_plain (x ∷ H) p =
    let next = Plain.call p.next x in
    let new = added (kind_of x) next.answer in
    all_plain H next ∙ ap (λ (z : List Transaction). z ++ added_in (plain_history next H)) (plain_adds p.next x) ∙ append_assoc p.next.log new (added_in (plain_history next H))
