-- 02, S-7: in a list without moves every answer is the same by the rule of before and by the rule that the calls have. The number of a session may have been
-- raised, not above what its studio has applied: where the studio has caught up with the old number it has with the new one, and where it has not they are equal.
use mathlib.Core.Path.{◌≡◌, refl, sym, ap, subst₂, ◌∙◌}
use mathlib.Core.Bool.{true, false, not, cond, false≢true}
use mathlib.Core.List.{List, [], ◌∷◌, ◌++◌}
use Prim.Native.Nat.{ℕ, zero, suc, ◌+◌, ◌*◌, ◌-◌, ◌≤◌, ◌<◌, max}
use native.Mathlib.Omega.{arith}
use native.Mathlib.Decide.{ℕ_discrete, dec_le}
use lib.ListN.{length, get_or, set, drop_of_length-le}
use borrow.Author.Tests.{le-leb, lt-leb}
use Rattle.carts.specs.Bytes.{zeros, every}
use Rattle.carts.proofs.TestLaws.{and_left, and_right}
use Rattle.replication.specs.Answer.{waits}
use Rattle.replication.specs.Memory.{Memory, copy_at, session_at, with_session, sequence_of, with_sequence, with_number, nth, studio_of}
use Rattle.replication.specs.Request.{Request, request_of}
use Rattle.replication.specs.Message.{message_in}
use Rattle.replication.specs.Log.{logged}
use Rattle.replication.specs.Rows.{Row, stopped, unless, memory_rows, commit_rows, commit_stop, send_rows, send_stop, refresh_rows, refresh_stop, read_rows, read_stop, collect_rows, collect_stop, write_rows, write_stop, load_rows, copies_form, load_stop, retire_rows, retire_stop}
use Rattle.replication.specs.Call.{Call, commit, preview, send, refresh, read, collect, forward, write, move, load, retire, run, final}
use Rattle.replication.specs.Calls as Bytes
use Rattle.replication.specs.Calls.{After, refusal, with_sessions, number_after, number_kept, told_sessions, with_sent, with_applied, committed, retired_control}
use Rattle.replication.specs.declared.control.Control.{Control}
use Rattle.replication.proofs.CommitLaws.{stopped_by_8}
use Rattle.replication.proofs.DecideLaws.{KnownSession, accepted}
use Rattle.replication.proofs.Accepted.{commit_passed, ReadAccepted, read_passed, collect_passed}
use Rattle.replication.proofs.RowLaws.{memory_passes, unless_both}
use Rattle.machine.proofs.Updates.{set_either, eqb_case}
use Rattle.refinement.specs.Represents.{OfLayout}
use Rattle.refinement.specs.Unmoved.{is_move, without_moves, history_by, left_by, SameWithoutMoves}
use Rattle.refinement.proofs.Sessions.{SessionBytes, request_bytes, empty_bytes, own_bytes, request_kept, sequence_set, sequence_again, same, other}
use Rattle.refinement.proofs.Arrays.{formed}
use Rattle.refinement.proofs.Read.{after_bounded, kept_bounded}
use Rattle.refinement.proofs.Simulation.{keeps_layout_by}

-- what session s's studio has applied
abbrev state_for : Control → ℕ → ℕ
state_for c s = nth c.applied (studio_of c s)

-- a session's bytes as they were and as they are, where its studio has applied `state`
pub record Near (state : ℕ) (x y : List ℕ) : Type 0 where
  pub bytes : with_sequence 0 y ≡ with_sequence 0 x
  pub asks : request_of y ≡ request_of x
  pub low : sequence_of x ≤ sequence_of y
  pub high : sequence_of y ≤ max (sequence_of x) state

abbrev Pairs : Control → List ℕ → List ℕ → Type 0
Pairs c old new = (s : ℕ) → 1 ≤ s → s ≤ 16 → Near (state_for c s) (session_at old s) (session_at new s)

near_self : (state : ℕ) (x : List ℕ) → Near state x x
near_self state x = record { bytes = refl; asks = refl; low = omega arith; high = omega arith }

near_higher : (i j : ℕ) (x y : List ℕ) → i ≤ j → Near i x y → Near j x y
near_higher i j x y u n = record { bytes = n.bytes; asks = n.asks; low = n.low; high = omega (arith, n.high) }

-- applied of a studio raised by one
rises : (applied : List ℕ) (i j : ℕ) → nth applied j ≤ nth (set applied (i - 1) (nth applied i + 1)) j
rises applied i j = set_either (λ k. nth applied j ≤ k) applied (i - 1) (nth applied i + 1) 0 (j - 1) (λ e. omega (arith, ap (λ (k : ℕ). get_or applied k 0) e)) (omega arith)

-- the session that a call names, whatever its number
near_any : (c : Control) (old new : List ℕ) → length old ≡ 1280 → length new ≡ 1280 → Pairs c old new → (s : ℕ) → Near (state_for c s) (session_at old s) (session_at new s)
unfolding studio_of session_at
near_any c old new k l h zero = h 1 (omega arith) (omega arith)
near_any c old new k l h (suc s) = go (dec_le (suc s) 16)
  where
    go : Dec (suc s ≤ 16) → Near (state_for c (suc s)) (session_at old (suc s)) (session_at new (suc s))
    go (yes g) = h (suc s) (omega arith) g
    go (no g) =
        let a : length old ≤ 80 * (suc s - 1) = omega arith in
        let b : length new ≤ 80 * (suc s - 1) = omega arith in
        rw (drop_of_length-le old a, drop_of_length-le new b) (near_self (state_for c (suc s)) [])

-- bytes that differ in 2–3 alone, with numbers a and b
near_numbered : (state a b : ℕ) (x y : List ℕ) → 16 ≤ length x → 16 ≤ length y → with_sequence 0 y ≡ with_sequence 0 x → request_of y ≡ request_of x → a ≤ b → b ≤ max a state
    → Near state (with_sequence a x) (with_sequence b y)
near_numbered state a b x y k l e q u v = record {
  bytes = sequence_again b y l 0 ∙ e ∙ sym (sequence_again a x k 0);
  asks = request_kept b y l ∙ q ∙ sym (request_kept a x k);
  low = rw (sequence_set a x k, sequence_set b y l) u;
  high = rw (sequence_set a x k, sequence_set b y l) v;
}

-- a call by the rule of before, and by the rule that the calls have
pub record Same (r t : After) : Type 0 where
  pub answer : t.answer ≡ r.answer
  pub output : t.output ≡ r.output
  pub control : t.control ≡ r.control
  pub memory : t.memory ≡ with_sessions r.memory t.memory.sessions
  pub pairs : Pairs r.control r.memory.sessions t.memory.sessions

by_rows : (n k : ℕ) → k ≡ n → (f g : ℕ → After) (a b : After) → ((j : ℕ) → n ≡ suc j → Same (f (suc j)) (g (suc j))) → (n ≡ 0 → Same a b) → Same (unless n f a) (unless k g b)
by_rows n k e f g a b stops goes = rw e (unless_both Same n f a g b stops goes)

module _ (c : Control) (m : Memory) (ys : List ℕ) (h : OfLayout c m) (l : OfLayout c (with_sessions m ys)) (p : Pairs c m.sessions ys) where
  abbrev n : Memory
  n = with_sessions m ys

  near : (s : ℕ) → Near (state_for c s) (session_at m.sessions s) (session_at ys s)
  near = near_any c m.sessions ys (formed c m h).sessions.size (formed c n l).sessions.size p

  -- the rows look at nothing of a session's bytes but its request
  same_stop : (rows : Request → List Row) (s : ℕ)
      → stopped (memory_rows c n ++ rows (request_of (session_at ys s))) ≡ stopped (memory_rows c m ++ rows (request_of (session_at m.sessions s)))
  same_stop rows s =
      memory_passes c n (rows (request_of (session_at ys s))) l.lengths l.layout
      ∙ ap (λ (q : Request). stopped (rows q)) (near s).asks
      ∙ sym (memory_passes c m (rows (request_of (session_at m.sessions s))) h.lengths h.layout)

  refused_same : (out : List ℕ) (k : ℕ) → Same (refusal c m out k) (refusal c n out k)
  refused_same out k = record { answer = refl; output = refl; control = refl; memory = refl; pairs = p }

  -- session s with the bytes x, number a, as it was, and y, number b, as it is
  module _ (s : ℕ) (w : KnownSession s (studio_of c s)) where
    replaced : (a b : ℕ) (x y : List ℕ) → SessionBytes x → SessionBytes y → with_sequence 0 y ≡ with_sequence 0 x → request_of y ≡ request_of x → a ≤ b → b ≤ max a (state_for c s)
        → Pairs c (with_session m.sessions s (with_sequence a x)) (with_session ys s (with_sequence b y))
    replaced a b x y bx by e asks u v q low high = go (ℕ_discrete q s)
      where
        go : Dec (q ≡ s) → Near (state_for c q) (session_at (with_session m.sessions s (with_sequence a x)) q) (session_at (with_session ys s (with_sequence b y)) q)
        go (yes z) = rw (z, same c m.sessions (formed c m h).sessions.size s w a x bx, same c ys (formed c n l).sessions.size s w b y by)
            (near_numbered (state_for c s) a b x y (omega (arith, bx.size)) (omega (arith, by.size)) e asks u v)
        go (no z) = rw (other c m.sessions (formed c m h).sessions.size s w a x bx q low z, other c ys (formed c n l).sessions.size s w b y by q low z) (p q low high)

    own : SessionBytes (session_at m.sessions s)
    own = own_bytes c m.sessions (formed c m h).sessions s w

    own_now : SessionBytes (session_at ys s)
    own_now = own_bytes c ys (formed c n l).sessions s w

    -- its own bytes, and another number
    numbered : (a b : ℕ) → a ≤ b → b ≤ max a (state_for c s)
        → Pairs c (with_session m.sessions s (with_sequence a (session_at m.sessions s))) (with_session ys s (with_sequence b (session_at ys s)))
    numbered a b = replaced a b _ _ own own_now (near s).bytes (near s).asks

    module _ (q : Request) (x y : List ℕ) (bx : SessionBytes x) (by : SessionBytes y) (e : with_sequence 0 y ≡ with_sequence 0 x) (asks : request_of y ≡ request_of x) (out : List ℕ) where
      answer_same : (state : ℕ) (copy : List ℕ) (a b : ℕ) → a ≤ b → b ≤ max a (state_for c s)
          → Same (Bytes.answer_from state copy q c m s a x out) (Bytes.answer_from state copy q c n s b y out)
      unfolding Bytes.answer_from
      answer_same state copy a b u v = record { answer = refl; output = refl; control = refl; memory = refl; pairs = replaced a b x y bx by e asks u v }

      block_same : (behind later : After) → (state_for c s < sequence_of (session_at m.sessions s) → Same behind later)
          → Same (Bytes.block_by number_kept c m s q x behind out) (Bytes.block_by number_after c n s q y later out)
      unfolding Bytes.block_by number_kept number_after
      block_same behind later k = go (dec_le (sequence_of (session_at m.sessions s)) (state_for c s))
        where
          go : Dec (sequence_of (session_at m.sessions s) ≤ state_for c s) → Same (Bytes.block_by number_kept c m s q x behind out) (Bytes.block_by number_after c n s q y later out)
          go (yes u) =
              let v : sequence_of (session_at ys s) ≤ state_for c s = omega (arith, (near s).high) in
              rw (le-leb _ _ u, le-leb _ _ v)
              (answer_same (state_for c s) (copy_at m.library (studio_of c s)) (sequence_of (session_at m.sessions s)) (max (sequence_of (session_at ys s)) (state_for c s)) (omega arith) (omega arith))
          go (no z) =
              let u : state_for c s < sequence_of (session_at m.sessions s) = omega arith in
              let v : state_for c s < sequence_of (session_at ys s) = omega (arith, (near s).low) in
              rw (lt-leb _ _ u, lt-leb _ _ v) (k u)

    -- where the studio is behind, the number is the same
    waits_same : state_for c s < sequence_of (session_at m.sessions s) → sequence_of (session_at ys s) ≡ sequence_of (session_at m.sessions s)
    waits_same u = omega (arith, (near s).low, (near s).high)

  commit_stop_law : (s : ℕ) (bytes : List ℕ) → commit_stop c n s bytes ≡ commit_stop c m s bytes
  unfolding commit_stop
  commit_stop_law s bytes = same_stop (λ q. commit_rows s (studio_of c s) q c.used c.commits (copy_at m.library 0) bytes) s

  told_same : (s : ℕ) (bytes : List ℕ) (k : ℕ) → commit_stop c m s bytes ≡ k → Same (Bytes.refused_commit c m s k) (Bytes.refused_commit c n s k)
  unfolding Bytes.refused_commit told_sessions
  told_same s bytes k e = eqb_case (λ b. Same (refusal c (with_sessions m (cond b (with_number m.sessions s c.commits) m.sessions)) [] k) (refusal c (with_sessions n (cond b (with_number ys s c.commits) ys)) [] k)) k 8
      (λ z. record { answer = refl; output = refl; control = refl; memory = refl; pairs = numbered s (stopped_by_8 c m s bytes (e ∙ z)).1.who c.commits c.commits (omega arith) (omega arith) })
      (λ z. refused_same [] k)

  commit_same : (s : ℕ) (bytes : List ℕ) → Same (Bytes.commit c m s bytes) (Bytes.commit c n s bytes)
  unfolding Bytes.commit commit_stop committed studio_of
  commit_same s bytes = by_rows (commit_stop c m s bytes) (commit_stop c n s bytes) (commit_stop_law s bytes) _ _ _ _ (λ j. told_same s bytes (suc j)) (λ e.
      let a = commit_passed _ _ _ _ _ _ _ (accepted c m _ e).1 in
      record { answer = refl; output = refl; control = refl; memory = refl; pairs = numbered s a.who (c.commits + 1) (c.commits + 1) (omega arith) (omega arith) })

  send_same : (i : ℕ) → Same (Bytes.send c m i) (Bytes.send c n i)
  unfolding Bytes.send send_stop with_sent studio_of
  send_same i = by_rows _ _ (same_stop (λ q. send_rows c.studios i (nth c.sent i) (nth c.applied i) c.commits) 1) _ _ _ _ (λ j e. refused_same [] (suc j))
      (λ e. record { answer = refl; output = refl; control = refl; memory = refl; pairs = p })

  refresh_same : (i : ℕ) → Same (Bytes.refresh c m i) (Bytes.refresh c n i)
  unfolding Bytes.refresh refresh_stop with_applied studio_of
  refresh_same i = by_rows _ _ (same_stop (λ q. refresh_rows c.studios i (nth c.sent i) (nth c.applied i)) 1) _ _ _ _ (λ j e. refused_same [] (suc j))
      (λ e. record {
        answer = refl;
        output = refl;
        control = refl;
        memory = refl;
        pairs = λ s low high.
            near_higher (nth c.applied (studio_of c s)) _ _ _ (rises c.applied i (studio_of c s)) (p s low high);
      })

  write_same : (k : ℕ) (out : List ℕ) → Same (Bytes.write c m k out) (Bytes.write c n k out)
  unfolding Bytes.write write_stop
  write_same k out = by_rows _ _ (same_stop (λ q. write_rows c.retired c.commits k (length (message_in c m.log k)) (length out)) 1) _ _ _ _ (λ j e. refused_same out (suc j))
      (λ e. record { answer = refl; output = refl; control = refl; memory = refl; pairs = p })

  load_same : Same (Bytes.load c m) (Bytes.load c n)
  unfolding Bytes.load load_stop
  load_same = by_rows _ _ (same_stop (λ q. load_rows (copies_form c m.library (logged c m.log)) (copy_at m.library 5) (logged c m.log)) 1) _ _ _ _ (λ j e. refused_same [] (suc j))
      (λ e. record { answer = refl; output = refl; control = refl; memory = refl; pairs = p })

  retire_same : Same (Bytes.retire c m) (Bytes.retire c n)
  unfolding Bytes.retire retire_stop retired_control studio_of
  retire_same = by_rows _ _ (same_stop (λ q. retire_rows c.studios c.retired c.commits c.applied) 1) _ _ _ _ (λ j e. refused_same [] (suc j))
      (λ e. record { answer = refl; output = refl; control = refl; memory = refl; pairs = p })

  -- read and forward, by what each does where the studio is behind
  reading_same : (s : ℕ) (request : List ℕ) (behind later : After) (out : List ℕ)
      → (ReadAccepted s (studio_of c s) (request_of (session_at m.sessions s)) request (length out) → state_for c s < sequence_of (session_at m.sessions s) → Same behind later)
      → Same (Bytes.reading_by number_kept c m s request behind out) (Bytes.reading_by number_after c n s request later out)
  unfolding read_stop
  reading_same s request behind later out k = by_rows _ _ (same_stop (λ q. read_rows s (studio_of c s) q request (length out)) s) _ _ _ _ (λ j e. refused_same out (suc j)) (λ e.
      let a = read_passed _ _ _ _ _ (accepted c m _ e).1 in
      block_same s a.who (request_of request) _ _ (own s a.who) (own_now s a.who) (near s).bytes (near s).asks out behind later (k a))

  read_same : (s : ℕ) (request out : List ℕ) → Same (Bytes.read_by number_kept c m s request out) (Bytes.read_by number_after c n s request out)
  unfolding Bytes.read_by
  read_same s request out = reading_same s request _ _ out (λ a u. record {
    answer = ap waits (waits_same s a.who u);
    output = refl;
    control = refl;
    memory = refl;
    pairs = replaced s a.who _ _ request request (request_bytes request a.form) (request_bytes request a.form) refl refl (near s).low (near s).high;
  })

  forward_same : (s : ℕ) (request out : List ℕ) → Same (Bytes.forward_by number_kept c m s request out) (Bytes.forward_by number_after c n s request out)
  unfolding Bytes.forward_by
  forward_same s request out = reading_same s request _ _ out (λ a u.
      answer_same s a.who (request_of request) _ _ (own s a.who) (own_now s a.who) (near s).bytes (near s).asks out c.commits (copy_at m.library 0) c.commits c.commits (omega arith) (omega arith))

  collect_same : (s : ℕ) (out : List ℕ) → Same (Bytes.collect_by number_kept c m s out) (Bytes.collect_by number_after c n s out)
  unfolding Bytes.collect_by collect_stop
  collect_same s out = by_rows _ _ (same_stop (λ q. collect_rows s (studio_of c s) q (length out)) s) _ _ _ _ (λ j e. refused_same out (suc j)) (λ e.
      let a = collect_passed _ _ _ _ (accepted c m _ e).1 in
      rw (near s).asks
      (block_same s a.who (request_of (session_at m.sessions s)) (zeros 80) (zeros 80) empty_bytes empty_bytes refl refl out _ _ (λ u. record {
        answer = ap waits (waits_same s a.who u);
        output = refl;
        control = refl;
        memory = refl;
        pairs = p;
      })))

  call_same : (x : Call) → not (is_move x) ≡ true → Same (Bytes.call_by number_kept c m x) (Bytes.call_by number_after c n x)
  unfolding Bytes.call_by Bytes.preview is_move
  call_same (commit s bytes) e = commit_same s bytes
  call_same (preview s bytes) e = record { answer = (commit_same s bytes).answer; output = refl; control = refl; memory = refl; pairs = p }
  call_same (send i) e = send_same i
  call_same (refresh i) e = refresh_same i
  call_same (read s request out) e = read_same s request out
  call_same (collect s out) e = collect_same s out
  call_same (forward s request out) e = forward_same s request out
  call_same (write k out) e = write_same k out
  call_same (move s i) e = absurd (false≢true e)
  call_same load e = load_same
  call_same retire e = retire_same

-- what two runs leave, both of the layout
abbrev Both : After → After → Type 0
Both r t = OfLayout r.control r.memory × (OfLayout t.control t.memory × Same r t)

turn_same : (r t : After) → Both r t → (x : Call) → not (is_move x) ≡ true → Both (Bytes.call_by number_kept r.control r.memory x) (Bytes.call_by number_after t.control t.memory x)
turn_same r t (h, (l, z)) x e = (
  keeps_layout_by number_kept kept_bounded r.control r.memory h x,
  (
    keeps_layout_by number_after after_bounded t.control t.memory l x,
    subst₂ (λ (c : Control) (n : Memory). Same (Bytes.call_by number_kept r.control r.memory x) (Bytes.call_by number_after c n x)) (sym z.control) (sym z.memory)
        (call_same r.control r.memory t.memory.sessions h (subst₂ OfLayout z.control z.memory l) z.pairs x e),
  ),
)

lists_same : (H : List Call) (r t : After) → Both r t → without_moves H ≡ true → (history_by number_after t H ≡ history_by number_kept r H) × Both (left_by number_kept r H) (left_by number_after t H)
unfolding history_by left_by without_moves every run final
lists_same [] r t b e = (refl, b)
lists_same (x ∷ H) r t b e =
    let next = turn_same r t b x (and_left (not (is_move x)) _ e) in
    let (rest, left) = lists_same H _ _ next (and_right (not (is_move x)) _ e) in
    (cc (next.1.1.answer, next.1.1.output, rest), left)

pub same_without_moves : SameWithoutMoves
same_without_moves r h H e =
    let (answers, left) = lists_same H r r (h, (h, record { answer = refl; output = refl; control = refl; memory = refl; pairs = λ s low high. near_self _ _ })) e in
    let z = left.1.1 in (
      answers,
      record {
        control = z.control;
        library = ap (λ (m : Memory). m.library) z.memory;
        log = ap (λ (m : Memory). m.log) z.memory;
        sessions = λ s low high. (z.pairs s low high).bytes;
      },
    )
