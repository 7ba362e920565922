-- 02, S-9, "a log that does not end": where every studio has applied every commit, all can be retired, and then no commit is refused by row 7 until 65,535 have
-- been used.
use Prim.Native.Nat.{ℕ, zero, suc, ◌+◌, ◌-◌, ◌≤◌, ◌<◌}
use native.Mathlib.Omega.{arith}
use mathlib.Core.Path.{◌≡◌, refl, sym, ap, ◌∙◌}
use mathlib.Core.Bool.{Bool, true, false, not, false≢true}
use mathlib.Core.List.{List, [], ◌∷◌, ◌++◌}
use lib.Dec.{ltb}
use lib.ListN.{length}
use lib.Seq.{drop-length}
use borrow.Author.Tests.{not-false, lt-ltb, le-ltb, lt-leb}
use Rattle.carts.specs.Bytes.{any, every}
use Rattle.carts.specs.Operation.{operation_form, spaced, operations_of, meets_all}
use Rattle.carts.specs.Transaction.{Transaction, records_used}
use Rattle.edit_log.specs.Log.{most_operations}
use Rattle.edit_log.proofs.OnceLaws.{up_from_every}
use Rattle.replication.specs.Memory.{most_commits, nth}
use Rattle.replication.specs.Log.{no_room}
use Rattle.replication.specs.Answer.{refused, done}
use Rattle.replication.specs.Request.{Request, is_waiting}
use Rattle.replication.specs.Rows.{Row, row, stopped, unless, session_row, size_form, commit_rows, retire_rows}
use Rattle.replication.specs.Call as Call
use Rattle.replication.proofs.RowLaws.{lacks, passed, later_stops, unless_case}
use Rattle.replication.proofs.CommitLaws.{operations_few}
use Rattle.machine.specs.Machine.{Machine, Step, step, commits, kept, with_retired, refused_commit, commit, retire, call, after_calls}
use Rattle.machine.specs.OneCopy.{Event, event}
use Rattle.machine.specs.Table.{calls_of}
use Rattle.machine.specs.Retired.{Level, retirings}
use Rattle.machine.proofs.Sound.{Sound}
use Rattle.machine.proofs.Entries.{plain_history}

-- what an accepted retire answers and leaves
abbrev pub one_retired : Machine → Step
one_retired m = step (done (m.retired + 1)) (with_retired m (m.retired + 1)) []

-- where every studio has applied every commit, and not all are retired, retire is accepted
pub retire_accepts : (m : Machine) → Level m.studios (commits m) m.applied → m.retired < commits m → retire m ≡ one_retired m
unfolding retire retire_rows stopped unless
retire_accepts m level u =
    rw (lt-ltb m.retired (commits m) u, up_from_every (λ i. ltb m.retired (nth m.applied i)) 1 m.studios (λ i l g. lt-ltb m.retired (nth m.applied i) (rw (level i l (omega arith)) u)))

-- n retire calls in a row
abbrev pub retiring : ℕ → Machine → List Call.Call
retiring n m = calls_of (retirings n m.retired)

-- as many as there are transactions that are not retired, or fewer, are all accepted
pub all_answered : (n : ℕ) (r : Step) → Level r.next.studios (commits r.next) r.next.applied → r.next.retired + n ≤ commits r.next
    → plain_history r (retiring n r.next) ≡ retirings n r.next.retired
unfolding retirings plain_history call Call.run
all_answered zero r level u = refl
all_answered (suc n) r level u =
    rw (retire_accepts r.next level (omega arith))
    (ap (λ (later : List Event). event Call.retire (done (r.next.retired + 1)) [] ∷ later) (all_answered n (one_retired r.next) level (omega arith)))

-- and change nothing but the count retired
pub all_retired : (n : ℕ) (r : Step) → Level r.next.studios (commits r.next) r.next.applied → r.next.retired + n ≤ commits r.next
    → (after_calls r (retiring n r.next)).next ≡ with_retired r.next (r.next.retired + n)
unfolding retirings call Call.run Call.final
all_retired zero r level u = let e : r.next.retired ≡ r.next.retired + 0 = omega arith in ap (with_retired r.next) e
all_retired (suc n) r level u =
    let e : r.next.retired + 1 + n ≡ r.next.retired + suc n = omega arith in
    rw (retire_accepts r.next level (omega arith))
    (all_retired n (one_retired r.next) level (omega arith) ∙ ap (with_retired r.next) e)

-- with all retired there is room for a commit
pub room_again : (m : Machine) → m.retired ≡ commits m → commits m < most_commits → (n : ℕ) → n ≤ most_operations → no_room (records_used (kept m)) (commits m) n ≡ false
unfolding no_room records_used
room_again m e few n u = rw (e, drop-length m.log, le-ltb 512 (0 + n) (omega arith), lt-leb 65535 (commits m) few)

-- a commit that row 7 stops: its length is right, and there is no room
full_stops : (full wrong : Bool) → stopped (row 7 full ∷ row 8 wrong ∷ []) ≡ 7 → full ≡ true
unfolding stopped
full_stops true wrong e = refl
full_stops false true e = absurd (omega arith)
full_stops false false e = absurd (omega arith)

commit_full : (s studio : ℕ) (waiting : Request) (used commits : ℕ) (primary bytes : List ℕ) → stopped (commit_rows s studio waiting used commits primary bytes) ≡ 7
    → (size_form bytes ≡ true) × (no_room used commits (length (operations_of bytes)) ≡ true)
unfolding commit_rows lacks every session_row
commit_full s studio waiting used commits primary bytes e =
    let ops : Transaction = operations_of bytes in
    let who : List Row = session_row s studio ∷ row 4 (is_waiting waiting) ∷ [] in
    let form : List Row = row 5 (not (size_form bytes)) ∷ row 6 (not (every operation_form ops)) ∷ row 16 (any spaced ops) ∷ [] in
    let p = later_stops (who ++ form) (row 7 (no_room used commits (length ops)) ∷ row 8 (not (meets_all primary ops)) ∷ []) 7 refl e in
    let q = later_stops who form 0 refl p.0 in
    (not-false _ (passed 4 (not (size_form bytes)) _ q.1).0, full_stops _ _ p.1)

-- so row 7 stops none
pub never_7 : (m : Machine) → m.retired ≡ commits m → commits m < most_commits → (s : ℕ) (bytes : List ℕ) → (commit m s bytes).answer ≡ refused 7 → ⊥
unfolding commit refused_commit
never_7 m e few s bytes = unless_case (λ (r : Step). r.answer ≡ refused 7 → ⊥) _ _ _ (λ k q a.
    let same : suc k ≡ 7 = cc in
    let (size, full) = commit_full _ _ _ _ _ _ _ (q ∙ same) in
    false≢true (sym (room_again m e few (length (operations_of bytes)) (operations_few bytes size).1) ∙ full))
    (λ q a. let z : ◌≡◌ {A = ℕ} 0 1 = cc in absurd (omega arith))

-- NOT FULL: where every studio has applied every commit, as many retire calls as there are transactions that are not retired
module _ (r : Step) (sound : Sound r.next) (level : Level r.next.studios (commits r.next) r.next.applied) where
  abbrev m : Machine
  m = r.next

  abbrev left : ℕ
  left = commits m - m.retired

  known : m.retired + left ≤ commits m
  known = omega (arith, sound.retired_commits)

  -- answer retired + 1, .., commits
  pub emptied_answers : plain_history r (retiring left m) ≡ retirings left m.retired
  emptied_answers = all_answered left r level known

  -- leave all retired, and the rest as it was
  pub emptied : (after_calls r (retiring left m)).next ≡ with_retired m (commits m)
  emptied = let e : m.retired + left ≡ commits m = omega (arith, sound.retired_commits) in all_retired left r level known ∙ ap (with_retired m) e

  -- and then no commit is refused with 7
  pub emptied_room : commits m < most_commits → (s : ℕ) (bytes : List ℕ) → (commit (after_calls r (retiring left m)).next s bytes).answer ≡ refused 7 → ⊥
  emptied_room few s bytes = rw emptied (never_7 (with_retired m (commits m)) refl few s bytes)
