-- Laws of commit: its rows from 4 on, what is known where no row stops it and where row 8 does, and a commit refused and accepted.
use Prim.Native.Nat.{ℕ, ◌+◌, ◌/◌, ◌%◌, ◌<◌, ◌≤◌}
use mathlib.Core.Path.{◌≡◌, refl, sym, ◌∙◌}
use mathlib.Core.Bool.{Bool, true, false, ◌||◌}
use mathlib.Core.List.{List, [], ◌∷◌, ◌++◌}
use native.Mathlib.Omega.{arith}
use lib.ListN.{length}
use lib.Dec.{eqb, leb, ltb}
use Rattle.carts.specs.Bytes.{part, over, within, every, any}
use Rattle.carts.specs.Operation.{operation_fields, operation_form, spaced, operations_of, meets_all, act_all}
use Rattle.carts.proofs.TestLaws.{all_at, within_low, within_high}
use Rattle.carts.proofs.OperationLaws.{forms_fields}
use Rattle.replication.specs.Answer.{refused, done}
use Rattle.replication.specs.Memory.{Memory, memory, copy_at, with_copy, session_at, with_number, studio_of}
use Rattle.edit_log.specs.Log.{follow}
use Rattle.edit_log.specs.Writes.{appended}
use Rattle.edit_log.specs.Values.{walkable, Takeable}
use Rattle.replication.specs.Log.{log_count, no_room}
use Rattle.replication.specs.Request.{request_of, is_waiting}
use Rattle.replication.specs.Rows.{row, stopped, size_form, lengths_row, memory_rows, session_row, operation_rows, commit_rows, commit_stop}
use Rattle.replication.specs.Calls.{after, commit, told_sessions, refused_commit, committed}
use Rattle.replication.specs.declared.control.Control.{Control}
use Rattle.replication.proofs.RowLaws.{lacks, row_stops, row_passes, session_numbered, unless_stopped, unless_accepted}
use Rattle.replication.proofs.DecideLaws.{by_rest, by_own_rows, accepted}
use Rattle.replication.proofs.Accepted.{commit_passed, CommitTold, commit_told}
use Rattle.edit_log.proofs.CommitLaws.{length_operations, free_takeable}
use Rattle.edit_log.proofs.FreeLaws.{first_small}
use Rattle.replication.proofs.SessionLaws.{session_placed}
use Rattle.replication.proofs.LogLaws.{log_walkable}
use Rattle.replication.proofs.Formed.{Formed, retired_known}

-- the size
pub size_few : (bytes : List ℕ) → size_form bytes ≡ true → (1 ≤ length bytes / 80) × (length bytes / 80 ≤ 8)
unfolding size_form
size_few bytes e =
    let w : within 80 640 (length bytes) ≡ true = all_at 0 (within 80 640 (length bytes) ∷ eqb (length bytes % 80) 0 ∷ []) e in
    let low = within_low 80 640 (length bytes) w in
    let high = within_high 80 640 (length bytes) w in
    (omega arith, omega arith)

pub operations_few : (bytes : List ℕ) → size_form bytes ≡ true → (1 ≤ length (operations_of bytes)) × (length (operations_of bytes) ≤ 8)
operations_few bytes e = rw (length_operations bytes) (size_few bytes e)

-- rows 5, 6, 16, 7 and 8
module _ (used commits : ℕ) (primary bytes : List ℕ) where
  pub size_wrong : size_form bytes ≡ false → 5 ≡ stopped (operation_rows used commits primary bytes)
  unfolding stopped
  size_wrong e = rw e

  module _ (s : size_form bytes ≡ true) where
    pub form_wrong : every operation_form (operations_of bytes) ≡ false → 6 ≡ stopped (operation_rows used commits primary bytes)
    unfolding stopped
    form_wrong e = rw (s, e)

    module _ (f : every operation_form (operations_of bytes) ≡ true) where
      pub title_spaced : any spaced (operations_of bytes) ≡ true → 16 ≡ stopped (operation_rows used commits primary bytes)
      unfolding stopped
      title_spaced e = rw (s, f, e)

      module _ (u : any spaced (operations_of bytes) ≡ false) where
        pub log_full : (ltb 512 (used + length bytes / 80) || leb 65535 commits) ≡ true → 7 ≡ stopped (operation_rows used commits primary bytes)
        unfolding stopped no_room
        log_full h = rw (s, f, u, length_operations bytes, h)

        module _ (r : (ltb 512 (used + length bytes / 80) || leb 65535 commits) ≡ false) where
          pub carts_wrong : meets_all primary (operations_of bytes) ≡ false → 8 ≡ stopped (operation_rows used commits primary bytes)
          unfolding stopped no_room
          carts_wrong e = rw (s, f, u, length_operations bytes, r, e)

          pub may_commit : meets_all primary (operations_of bytes) ≡ true → 0 ≡ stopped (operation_rows used commits primary bytes)
          unfolding stopped no_room
          may_commit e = rw (s, f, u, length_operations bytes, r, e)

-- neither memory nor who calls stops it: v is what the code has found of them, b whether a read is waiting
module _ (c : Control) (m : Memory) (s : ℕ) (bytes : List ℕ) (v : ℕ) (e : v ≡ stopped (memory_rows c m ++ (session_row s (studio_of c s) ∷ []))) (z : v ≡ 0)
    (b : Bool) (q : b ≡ is_waiting (request_of (session_at m.sessions s))) where
  rest_decides : (n : ℕ) → n ≡ stopped (row 4 (is_waiting (request_of (session_at m.sessions s))) ∷ operation_rows c.used c.commits (copy_at m.library 0) bytes) → n ≡ commit_stop c m s bytes
  unfolding commit_stop commit_rows
  rest_decides n g = by_rest c m _ _ (session_numbered s (studio_of c s)) v e z n g

  pub read_waits : b ≡ true → 4 ≡ commit_stop c m s bytes
  read_waits t = rest_decides 4 (row_stops 4 _ _ (sym q ∙ t))

  pub operations_decide : b ≡ false → (n : ℕ) → n ≡ stopped (operation_rows c.used c.commits (copy_at m.library 0) bytes) → n ≡ commit_stop c m s bytes
  operations_decide t n g = rest_decides n (g ∙ sym (row_passes 4 _ _ (sym q ∙ t)))

-- what is known where no row stops a commit
pub record Known (c : Control) (m : Memory) (s : ℕ) (bytes : List ℕ) : Type 0 where
  pub formed : Formed c m
  pub session : (1 ≤ s) × (s ≤ 16)
  pub fields : every operation_fields (operations_of bytes) ≡ true
  pub some : 1 ≤ length bytes / 80
  pub room : c.used + length bytes / 80 ≤ 512
  pub few : c.commits < 65535
  pub known : c.retired ≤ c.commits
  pub free : Takeable (length bytes / 80) m.log c.free_first
  pub small : c.free_first ≤ 512
  pub walks : walkable (log_count c) m.log c.oldest ≡ true

-- what is known where row 8 stops it
pub stopped_by_8 : (c : Control) (m : Memory) (s : ℕ) (bytes : List ℕ) → commit_stop c m s bytes ≡ 8 → Formed c m × CommitTold s (studio_of c s) (copy_at m.library 0) bytes
unfolding commit_stop lacks every memory_rows lengths_row
stopped_by_8 c m s bytes e = let a = by_own_rows c m _ 8 refl e in (a.0, commit_told _ _ _ _ _ _ _ a.1)

-- the new count has two bytes
pub next_small : (c : Control) (n free : ℕ) (next : Control) → next ≡ committed c n free → c.commits < 65535 → next.commits < 65536
unfolding committed
next_small c n free next e h = rw e (omega arith)

-- the whole call; v is the number that the rows give
module _ (c : Control) (m : Memory) (s : ℕ) (bytes : List ℕ) (v : ℕ) (e : v ≡ commit_stop c m s bytes) where
  -- refused: by row 8 its session has a place and commits have two bytes
  pub told_known : v ≡ 8 → ((length m.sessions ≡ 1280) × ((1 ≤ s) × (s ≤ 16))) × (c.commits < 65536)
  told_known z =
      let (f, p) = stopped_by_8 c m s bytes (sym e ∙ z) in
      (session_placed c m s (studio_of c s) f p.who, omega (arith, f.control.few))

  pub commit_refused : (v ≡ 0 → ⊥) → (sessions : List ℕ) → sessions ≡ told_sessions m.sessions s c.commits v
      → after (refused v) c (memory m.library m.log sessions) [] ≡ commit c m s bytes
  unfolding commit refused_commit
  commit_refused n sessions t = rw (t, e) (unless_stopped _ _ _ (λ z. n (e ∙ z)))

  pub commit_known : v ≡ 0 → Known c m s bytes
  unfolding commit_stop
  commit_known z =
      let a = accepted c m _ (sym e ∙ z) in
      let f = a.0 in
      let p = commit_passed s (studio_of c s) (request_of (session_at m.sessions s)) c.used c.commits (copy_at m.library 0) bytes a.1 in
      let size = size_few bytes p.size in
      record {
        formed = f;
        session = (p.who.low, p.who.high);
        fields = forms_fields (operations_of bytes) p.form;
        some = size.0;
        room = rw (length_operations bytes) at p.room;
        few = p.few;
        known = retired_known c m f;
        free = free_takeable (log_count c) m.log c.used c.oldest c.free_first c.free_last f.log.chains (length bytes / 80) (rw (length_operations bytes) at p.room);
        small = first_small (log_count c) m.log c.used c.oldest c.free_first c.free_last f.log.chains;
        walks = log_walkable c m f (log_count c) (omega arith);
      }

  -- the head end's copy, the log and the sessions as the code leaves them
  pub commit_accepted : v ≡ 0 → (free : ℕ) → free ≡ follow (length bytes / 80) m.log c.free_first → (next : Control) → next ≡ committed c (length bytes / 80) free
      → (copy log sessions : List ℕ) → copy ≡ act_all (part m.library 0 10240) (operations_of bytes)
      → log ≡ appended (log_count c) m.log c.oldest c.free_first (operations_of bytes)
      → sessions ≡ with_number m.sessions s next.commits
      → after (done next.commits) next (memory (over m.library 0 10240 copy) log sessions) [] ≡ commit c m s bytes
  unfolding commit committed copy_at with_copy
  commit_accepted z free w next q copy log sessions l g t =
      let n = length_operations bytes in
      let k : next ≡ committed c (length (operations_of bytes)) (follow (length (operations_of bytes)) m.log c.free_first) = rw (n, ← w) q in
      rw (t, l, g, k) (unless_accepted _ _ _ (sym e ∙ z))
