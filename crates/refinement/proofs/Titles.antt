-- "A title is kept whole or refused", on bytes: in the head end's copy, in the reads that show it, and rows 6 and 16.
use mathlib.Core.Path.{◌≡◌, refl, sym, ap, ◌∙◌}
use mathlib.Core.Bool.{Bool, true, false, not, false≢true}
use mathlib.Core.List.{List, [], ◌∷◌, ◌++◌}
use Prim.Native.Nat.{ℕ, ◌*◌, ◌≤◌, ◌<◌}
use native.Mathlib.Omega.{arith}
use lib.ListN.{length, take, drop, get_or}
use native.Mathlib.Decide.{ℕ_discrete}
use Rattle.carts.specs.Bytes.{part, u16, every, all_zero}
use Rattle.carts.specs.Cart.{cart_at, has_title}
use Rattle.carts.specs.Operation.{operation_fields, operation_form, writes_title, spaced, operations_of}
use Rattle.carts.specs.Transaction.{L}
use Rattle.carts.proofs.TestLaws.{all_at, every_at, any_at}
use Rattle.carts.proofs.OperationLaws.{operation_tests, operations_of_law, length_act_all}
use Rattle.carts.proofs.SpaceLaws.{UnspacedCopy, UnspacedOperations}
use Rattle.replication.specs.Answer.{refused, done, answered}
use Rattle.replication.specs.Memory.{Memory, copy_at, session_at, studio_of}
use Rattle.replication.specs.Request.{by_numbers, by_title, request_of, is_waiting}
use Rattle.replication.specs.Rows.{Row, row, stopped, unless, lengths_row, memory_rows, session_row, size_form, commit_rows, commit_stop}
use Rattle.replication.specs.Call as Call
use Rattle.replication.specs.Call.{Call}
use Rattle.replication.specs.Calls as Bytes
use Rattle.replication.specs.Calls.{After}
use Rattle.replication.specs.declared.control.Control.{Control}
use Rattle.replication.proofs.CopyLaws.{length_copy_at, copy_same}
use Rattle.replication.proofs.RowLaws.{lacks, stopped_by, unless_case, later_stops, memory_numbered, right_memory, lengths_are}
use Rattle.replication.proofs.Accepted.{commit_passed}
use Rattle.machine.specs.Machine as Plain
use Rattle.machine.specs.Machine.{Step}
use Rattle.machine.specs.Asked.{asked}
use Rattle.machine.specs.Titles.{title_in, spares, Writes, ShowsTheOne}
use Rattle.machine.proofs.Sound.{Sound}
use Rattle.machine.proofs.Kept.{keeps, after_sound}
use Rattle.machine.proofs.Grows.{after_grows}
use Rattle.machine.proofs.Titles as Machine
use Rattle.machine.proofs.Titles.{title_written, commit_writes}
use Rattle.machine.proofs.TitleReads as Reads
use Rattle.machine.proofs.Sort.{All}
use Rattle.machine.proofs.Spaces.{L-unspaced}
use Rattle.refinement.specs.Represents.{Simulates}
use Rattle.refinement.proofs.Simulation.{simulates, simulates_then}

-- an accepted commit, from any control and memory
pub primary_title : (c : Control) (m : Memory) (s : ℕ) (bytes op : List ℕ) (n : ℕ) → Writes bytes op → (Bytes.commit c m s bytes).answer ≡ done n
    → title_in (cart_at (copy_at (Bytes.commit c m s bytes).memory.library 0) (u16 op 2)) ≡ title_in op
unfolding Bytes.commit commit_stop Bytes.refused_commit
primary_title c m s bytes op n w accepted =
    unless_case (λ (r : After). r.answer ≡ done n → title_in (cart_at (copy_at r.memory.library 0) (u16 op 2)) ≡ title_in op) _ _ _
    (λ k _ q. let z : ◌≡◌ {A = ℕ} 0 1 = cc in absurd (omega arith))
    (λ e _. let rows = later_stops (memory_rows c m) _ 0 (memory_numbered c m) e in
    let size = (lengths_are m (right_memory c m rows.0).0).0 in
    let a = commit_passed _ _ _ _ _ _ _ rows.1 in
    let ops = operations_of_law bytes a.form in
    let copy = length_copy_at m.library size 0 (omega arith) in
    let same = copy_same m.library size 0 (omega arith) _ (length_act_all (operations_of bytes) _ copy ops) in
    ap (λ (z : List ℕ). title_in (cart_at z (u16 op 2))) same ∙ (title_written bytes op w _ copy ops a.meets).0)
    accepted

-- a commit with a title of another form that rows 1 to 5 let pass, and one with a title that begins or ends with a space that rows 1 to 6 let pass
module _ (c : Control) (m : Memory) (s : ℕ) (bytes : List ℕ) where
  form_wrong : (i : ℕ) → i < length (operations_of bytes) → writes_title (get_or (operations_of bytes) i []) ≡ true → has_title (get_or (operations_of bytes) i []) ≡ false
      → every operation_form (operations_of bytes) ≡ false
  unfolding operation_form operation_fields
  form_wrong i u w e = go (every operation_form (operations_of bytes)) refl
    where
      go : (b : Bool) → every operation_form (operations_of bytes) ≡ b → b ≡ false
      go false h = refl
      go true h =
          let op : List ℕ = get_or (operations_of bytes) i [] in
          let f : operation_fields op ≡ true = all_at 0 (operation_fields op ∷ all_zero (part op 12 4) ∷ []) (every_at operation_form (operations_of bytes) [] i h u) in
          let t : has_title op ≡ true = rw w at (all_at 2 (operation_tests op) f) in
          absurd (false≢true (sym e ∙ t))

  pub title_refused : stopped (memory_rows c m ++ (session_row s (studio_of c s) ∷ row 4 (is_waiting (request_of (session_at m.sessions s))) ∷ row 5 (not (size_form bytes)) ∷ [])) ≡ 0
      → (i : ℕ) → i < length (operations_of bytes) → writes_title (get_or (operations_of bytes) i []) ≡ true → has_title (get_or (operations_of bytes) i []) ≡ false
      → (Bytes.commit c m s bytes).answer ≡ refused 6
  unfolding Bytes.commit commit_stop Bytes.refused_commit commit_rows memory_rows lengths_row session_row lacks every unless
  title_refused passes i u w e =
      let rows : List Row = commit_rows s (studio_of c s) (request_of (session_at m.sessions s)) c.used c.commits (copy_at m.library 0) bytes in
      let stops : not (every operation_form (operations_of bytes)) ≡ true = rw (form_wrong i u w e) in
      rw (stopped_by (memory_rows c m ++ take 3 rows) (drop 4 rows) 6 _ refl passes stops)

  pub spaced_refused : stopped (memory_rows c m ++ (session_row s (studio_of c s) ∷ row 4 (is_waiting (request_of (session_at m.sessions s))) ∷ row 5 (not (size_form bytes))
      ∷ row 6 (not (every operation_form (operations_of bytes))) ∷ [])) ≡ 0
      → (i : ℕ) → i < length (operations_of bytes) → spaced (get_or (operations_of bytes) i []) ≡ true → (Bytes.commit c m s bytes).answer ≡ refused 16
  unfolding Bytes.commit commit_stop Bytes.refused_commit commit_rows memory_rows lengths_row session_row lacks every unless
  spaced_refused passes i u e =
      let rows : List Row = commit_rows s (studio_of c s) (request_of (session_at m.sessions s)) c.used c.commits (copy_at m.library 0) bytes in
      rw (stopped_by (memory_rows c m ++ take 4 rows) (drop 5 rows) 16 _ refl passes (any_at spaced (operations_of bytes) [] i u e))

-- a title in the reads of a list of calls: from what stands for a sound machine, after an accepted commit, as long as no transaction has an operation on
-- its cart
pub title_shown : (r : After) (p : Step) → Simulates r p → Sound p.next → (s : ℕ) (bytes op : List ℕ) (n : ℕ) → Writes bytes op
    → let t = Bytes.call r.control r.memory (Call.commit s bytes) in t.answer ≡ done n
    → (H : List Call) (x : Call) (k found : ℕ) → let M = (Plain.after_calls (Plain.call p.next (Call.commit s bytes)) H).next in
    let v = Bytes.after_calls t H in
    let u = Bytes.call v.control v.memory x in
    u.answer ≡ answered k found → n ≤ k → ((j : ℕ) → n ≤ j → j < k → spares (u16 op 2) (get_or M.log j []) ≡ true)
    → (cs : List ℕ) (i : ℕ) → asked M x ≡ by_numbers cs → i < length cs → get_or cs i 0 ≡ u16 op 2
    → title_in (part u.output (80 * i) 80) ≡ title_in op
unfolding Plain.call
title_shown r p h f s bytes op n w accepted H x k found shown u v cs i q g e =
    let x0 : Call = Call.commit s bytes in
    let (one, last) = simulates_then r p h x0 H x in
    let p2 : Step = Plain.call p.next x0 in
    let M = (Plain.after_calls p2 H).next in
    let written = commit_writes p.next f s bytes op n w (sym one.answer ∙ accepted) in
    rw last.output
    (Machine.title_shown op n k M p2.next.log (after_sound H p2 (keeps p.next f x0)) written (after_grows H p2) u v x found (sym last.answer ∙ shown) cs i q g e)

-- a read, forward or collect by title that found 1
pub title_read_law : (r : After) (p : Step) → Simulates r p → Sound p.next → (x : Call) (k : ℕ) (title : List ℕ)
    → let u = Bytes.call r.control r.memory x in
    u.answer ≡ answered k 1 → asked p.next x ≡ by_title title → ShowsTheOne title (L p.next.log k) u.output
title_read_law r p h f x k title answer q =
    let last = simulates r.control r.memory p.next h.next x in
    rw last.output (Reads.title_read_law p.next f x k title (sym last.answer ∙ answer) q)

-- what stands for a machine whose transactions row 16 let pass: no cart of any copy has a title that begins or ends with a space
pub no_spaced_title : (r : After) (p : Step) → Simulates r p → Sound p.next → All UnspacedOperations p.next.log → (i : ℕ) → i ≤ 4 → UnspacedCopy (copy_at r.memory.library i)
no_spaced_title r p h f t i u = go (ℕ_discrete i 0)
  where
    go : Dec (i ≡ 0) → UnspacedCopy (copy_at r.memory.library i)
    go (yes e) = rw (e, h.next.primary) (L-unspaced p.next.log _ f.formed t)
    go (no n) = rw (h.next.replicas i (omega arith) u) (L-unspaced p.next.log _ f.formed t)
