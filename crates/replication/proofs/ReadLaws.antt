-- Laws of read, forward and collect: rows 4, 12, 13 and 14, what is known where no row stops the call, and the ways of an accepted one.
use Prim.Native.Nat.{ℕ, ◌-◌, ◌*◌, ◌<◌, ◌≤◌}
use mathlib.Core.Path.{◌≡◌, refl, sym, ◌∙◌}
use mathlib.Core.Bool.{true, false}
use mathlib.Core.List.{List, [], ◌∷◌, ◌++◌}
use native.Mathlib.Omega.{arith}
use lib.ListN.{length}
use borrow.Author.Tests.{lt-ltb, le-ltb}
use Rattle.carts.specs.Bytes.{zeros}
use Rattle.carts.proofs.PartLaws.{length_part}
use Rattle.replication.specs.Answer.{Answer, refused, waits}
use Rattle.replication.specs.Memory.{Memory, session_at, with_session, with_sequence, sequence_of, studio_of}
use Rattle.replication.specs.Request.{Request, request_of, request_form, is_waiting, needed}
use Rattle.replication.specs.Rows.{stopped, memory_rows, session_row, request_rows, read_rows, waiting_rows, collect_rows, read_stop, collect_stop}
use Rattle.replication.specs.Calls.{After, after, with_sessions, number_after, block, reading_by, read_by, read, collect_by, collect, forward_by, forward}
use Rattle.replication.specs.Values.{due_of, forward_source, answer_by}
use Rattle.replication.specs.declared.control.Control.{Control}
use Rattle.replication.specs.declared.block.Due.{Due}
use Rattle.replication.specs.declared.source.Source.{Source}
use Rattle.replication.proofs.RowLaws.{unless_stopped, unless_accepted, session_numbered}
use Rattle.replication.proofs.DecideLaws.{accepted, by_rest}
use Rattle.replication.proofs.Accepted.{read_passed, collect_passed}
use Rattle.replication.proofs.SessionLaws.{Caller, caller, Asked, request_parts, waiting_fields, session_fields}
use Rattle.replication.proofs.BlockLaws.{waits_in, block_forward, step_answered, step_waits}

-- the rows of a read after row 3
module _ (waiting : Request) (request : List ℕ) (room : ℕ) where
  pub read_waiting : is_waiting waiting ≡ true → 4 ≡ stopped (request_rows waiting request room)
  unfolding stopped
  read_waiting w = rw w

  pub read_unformed : is_waiting waiting ≡ false → request_form request ≡ false → 12 ≡ stopped (request_rows waiting request room)
  unfolding stopped
  read_unformed w f = rw (w, f)

  pub read_no_room : is_waiting waiting ≡ false → request_form request ≡ true → (n : ℕ) → needed (request_of request) ≡ n → room < n → 13 ≡ stopped (request_rows waiting request room)
  unfolding stopped
  read_no_room w f n e h = rw (w, f, e, lt-ltb room n h)

  pub may_read : is_waiting waiting ≡ false → request_form request ≡ true → (n : ℕ) → needed (request_of request) ≡ n → n ≤ room → 0 ≡ stopped (request_rows waiting request room)
  unfolding stopped
  may_read w f n e h = rw (w, f, e, le-ltb room n h)

-- the rows of a collect after row 3
module _ (waiting : Request) (room : ℕ) where
  pub collect_nothing : is_waiting waiting ≡ false → 14 ≡ stopped (waiting_rows waiting room)
  unfolding stopped
  collect_nothing w = rw w

  pub collect_no_room : is_waiting waiting ≡ true → (n : ℕ) → needed waiting ≡ n → room < n → 13 ≡ stopped (waiting_rows waiting room)
  unfolding stopped
  collect_no_room w n e h = rw (w, e, lt-ltb room n h)

  pub may_collect : is_waiting waiting ≡ true → (n : ℕ) → needed waiting ≡ n → n ≤ room → 0 ≡ stopped (waiting_rows waiting room)
  unfolding stopped
  may_collect w n e h = rw (w, e, le-ltb room n h)

-- a row after row 3 of a read or collect that rows 1 to 3 do not stop
module _ (c : Control) (m : Memory) (s : ℕ) (e : 0 ≡ stopped (memory_rows c m ++ (session_row s (studio_of c s) ∷ []))) where
  pub read_rest : (request : List ℕ) (room n : ℕ) → n ≡ stopped (request_rows (request_of (session_at m.sessions s)) request room) → n ≡ read_stop c m s request room
  unfolding read_stop read_rows
  read_rest request room n g = by_rest c m (session_row s (studio_of c s)) _ (session_numbered _ _) 0 e refl n g

  pub collect_rest : (room n : ℕ) → n ≡ stopped (waiting_rows (request_of (session_at m.sessions s)) room) → n ≡ collect_stop c m s room
  unfolding collect_stop collect_rows
  collect_rest room n g = by_rest c m (session_row s (studio_of c s)) _ (session_numbered _ _) 0 e refl n g

-- a whole read, or forward
module _ (c : Control) (m : Memory) (s : ℕ) (request out : List ℕ) (v : ℕ) (e : v ≡ read_stop c m s request (length out)) where
  reading_refused : (v ≡ 0 → ⊥) → (behind : After) → after (refused v) c m out ≡ reading_by number_after c m s request behind out
  reading_refused n behind = rw e (unless_stopped _ _ _ (λ z. n (e ∙ z)))

  pub read_refused : (v ≡ 0 → ⊥) → after (refused v) c m out ≡ read c m s request out
  unfolding read_by
  read_refused n = reading_refused n _

  pub forward_refused : (v ≡ 0 → ⊥) → after (refused v) c m out ≡ forward c m s request out
  unfolding forward_by
  forward_refused n = reading_refused n _

  module _ (z : v ≡ 0) where
    pub read_known : Caller c m s × Asked request (length out)
    unfolding read_stop
    read_known =
        let a = accepted c m _ (sym e ∙ z) in
        let p = read_passed s (studio_of c s) (request_of (session_at m.sessions s)) request (length out) a.1 in
        let k = request_parts request p.form in
        (caller c m s a.0 p.who, record { size = k.0; fields = k.1; fits = p.fits })

    -- what the Block step gives, where the session is left as it was
    module _ (sessions new own : List ℕ) (o : own ≡ session_at m.sessions s) where
      abbrev Step : After
      Step = block c m s (request_of request) own (waits_in c m s out) out

      pub read_answers : (a : Answer) → ((n : ℕ) → a ≡ waits n → ⊥) → after a c (with_sessions m sessions) new ≡ Step → after a c (with_sessions m sessions) new ≡ read c m s request out
      unfolding read_by
      read_answers a no-wait f = step_answered c m s (request_of request) (session_at m.sessions s) _ out sessions new a no-wait (rw o at f) ∙ unless_accepted _ _ _ (sym e ∙ z)

      pub read_waits : (a : Answer) (n : ℕ) → a ≡ waits n → after a c (with_sessions m sessions) new ≡ Step → (stored : List ℕ) → stored ≡ with_session sessions s (with_sequence n request)
          → after (waits n) c (with_sessions m stored) new ≡ read c m s request out
      unfolding read_by
      read_waits a n w f stored q =
          let g = step_waits c m s (request_of request) (session_at m.sessions s)
          (after (waits (sequence_of (session_at m.sessions s))) c (with_sessions m (with_session m.sessions s (with_sequence (sequence_of (session_at m.sessions s)) request))) out) out sessions new n (rw (o, w) at f) in
          rw (q, g.1.0, g.1.1.0, g.1.1.1) (g.0 ∙ unless_accepted _ _ _ (sym e ∙ z))

    -- what a forward gives, from its source
    pub forward_answers : (due : Due) → due ≡ due_of c m.sessions s → (own : List ℕ) → own ≡ session_at m.sessions s → (w : Source) → w ≡ forward_source c due
        → (r : After) → r ≡ answer_by w (request_of request) c m s own out → r ≡ forward c m s request out
    unfolding forward_by
    forward_answers due d own o w k r f = block_forward c m s due d (request_of request) (session_at m.sessions s) out w k r (rw o at f) ∙ unless_accepted _ _ _ (sym e ∙ z)

-- a whole collect
module _ (c : Control) (m : Memory) (s : ℕ) (out : List ℕ) (v : ℕ) (e : v ≡ collect_stop c m s (length out)) where
  pub collect_refused : (v ≡ 0 → ⊥) → after (refused v) c m out ≡ collect c m s out
  unfolding collect_by
  collect_refused n = rw e (unless_stopped _ _ _ (λ z. n (e ∙ z)))

  module _ (z : v ≡ 0) where
    pub collect_known : Caller c m s × Asked (session_at m.sessions s) (length out)
    unfolding collect_stop session_at
    collect_known =
        let a = accepted c m _ (sym e ∙ z) in
        let x : List ℕ = session_at m.sessions s in
        let p = collect_passed s (studio_of c s) (request_of x) (length out) a.1 in
        let w = p.who in
        let size : length m.sessions ≡ 1280 = a.0.sessions.size in (
          caller c m s a.0 w,
          record {
            size = length_part m.sessions (80 * (s - 1)) 80 (omega (arith, w.high, w.low));
            fields = waiting_fields x p.waits (session_fields c s x w.used (a.0.sessions.forms s w.low w.high));
            fits = p.fits;
          },
        )

    pub collect_steps : (r : After) (asked : List ℕ) → asked ≡ session_at m.sessions s → r ≡ block c m s (request_of asked) (zeros 80) (waits_in c m s out) out → r ≡ collect c m s out
    unfolding collect_by
    collect_steps r asked o f = (rw o at f) ∙ unless_accepted _ _ _ (sym e ∙ z)
