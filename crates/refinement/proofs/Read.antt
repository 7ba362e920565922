-- Read, forward and collect: they keep the layout, by the rule of 02, S-7, and by the one before it, and do what the plain machine's do.
use mathlib.Core.Path.{◌≡◌, refl, sym, ap, ◌∙◌}
use mathlib.Core.List.{List}
use Prim.Native.Nat.{ℕ, ◌-◌, ◌≤◌, ◌<◌, max}
use native.Mathlib.Omega.{arith}
use lib.Dec.{leb}
use lib.ListN.{length, set}
use borrow.Author.Tests.{lt-leb}
use lib.Seq.{set-get_or}
use Rattle.carts.specs.Bytes.{zeros, over}
use Rattle.carts.specs.Transaction.{Transaction, L}
use Rattle.carts.proofs.TestLaws.{by_cond, cond_both}
use Rattle.replication.specs.Answer.{waits, answered}
use Rattle.replication.specs.Memory.{Memory, Arrays, copy_at, session_at, sequence_of, nth, studio_of}
use Rattle.replication.specs.Request.{Request, nothing, request_of, needed, found_in, shown_from}
use Rattle.replication.specs.Rows.{Row, stopped, unless, read_rows, read_stop, collect_rows, collect_stop}
use Rattle.replication.specs.Calls as Bytes
use Rattle.replication.specs.Calls.{After, Rule, number_after, number_kept}
use Rattle.replication.specs.declared.control.Control.{Control}
use Rattle.replication.proofs.Formed.{Formed, few, studio_known, applied_known}
use Rattle.replication.proofs.RowLaws.{memory_passes, unless_case, unless_both}
use Rattle.replication.proofs.DecideLaws.{KnownSession}
use Rattle.replication.proofs.Accepted.{ReadAccepted, read_passed, collect_passed}
use Rattle.machine.specs.Machine as Plain
use Rattle.machine.specs.Machine.{Session, Step}
use Rattle.refinement.specs.Represents.{OfLayout, Represents, Simulates}
use Rattle.refinement.proofs.Represented.{machine_of, log_length}
use Rattle.refinement.proofs.Sessions.{SessionBytes, request_bytes, empty_bytes, empty_request, own_bytes, own_sequence, shown, session_of_law, session_formed, session_represents}
use Rattle.refinement.proofs.Arrays.{arrays, formed, of_layout_law}

-- a rule that leaves no number above both the old one and the state that was shown
abbrev pub Bounded : Rule → Type 0
Bounded rule = (n k : ℕ) → rule n k ≤ max n k

pub after_bounded : Bounded number_after
unfolding number_after
after_bounded n k = omega arith

pub kept_bounded : Bounded number_kept
unfolding number_kept
kept_bounded n k = omega arith

module _ (c : Control) (m : Memory) (s : ℕ) (w : KnownSession s (studio_of c s)) (a : Arrays c) (f : Formed c m) (q : Request) (x : List ℕ) (b : SessionBytes x)
    (out : List ℕ) where
  -- an answer from a copy, after which the session has the bytes x and a number not above commits
  module _ (state : ℕ) (copy : List ℕ) (n : ℕ) (l : n ≤ c.commits) where
    answer_keeps : let r = Bytes.answer_from state copy q c m s n x out in OfLayout r.control r.memory
    unfolding Bytes.answer_from
    answer_keeps = of_layout_law _ _ a (session_formed c m s w a f n x b l)

    answer_simulates : request_of x ≡ nothing → (log : List Transaction) (sessions : List Session) → Represents c m (machine_of c log sessions) → copy ≡ L log state
        → Simulates (Bytes.answer_from state copy q c m s n x out) (Plain.answer_from state n q (machine_of c log sessions) s out)
    unfolding Bytes.answer_from Plain.answer_from
    answer_simulates e log sessions h same =
        rw (session_of_law c m _ h s)
        (record {
          answer = ap (λ (z : List ℕ). answered state (found_in z q)) same;
          output = ap (λ (z : List ℕ). over out 0 (needed q) (shown_from z q)) same;
          next = rw (← e) (session_represents c m s w a f n x b l log sessions h);
        })

  -- its studio is one of the system's
  studio_placed : (1 ≤ studio_of c s) × (studio_of c s ≤ 4)
  studio_placed =
      let n = w.used in
      let k = few c m f in
      let d = studio_known c m f s a.session_studios w.high in
      (omega arith, omega arith)

  -- the number that the studio's answer leaves
  next_known : (rule : Rule) → Bounded rule → rule (sequence_of (session_at m.sessions s)) (nth c.applied (studio_of c s)) ≤ c.commits
  next_known rule bound = omega (
    arith,
    bound (sequence_of (session_at m.sessions s)) (nth c.applied (studio_of c s)),
    own_sequence c m.sessions f.sessions s w,
    applied_known c (studio_of c s) (f.counts (studio_of c s) studio_placed.0 studio_placed.1),
  )

  -- a reading call that no row stops: answered now, or `behind`
  block_keeps : (rule : Rule) → Bounded rule → (behind : After) → OfLayout behind.control behind.memory
      → OfLayout (Bytes.block_by rule c m s q x behind out).control (Bytes.block_by rule c m s q x behind out).memory
  unfolding Bytes.block_by
  block_keeps rule bound behind h =
      by_cond (λ (r : After). OfLayout r.control r.memory) (leb (sequence_of (session_at m.sessions s)) (nth c.applied (studio_of c s))) _ _
      (λ _. answer_keeps _ _ _ (next_known rule bound)) (λ _. h)

  block_simulates : request_of x ≡ nothing → (log : List Transaction) (sessions : List Session) → Represents c m (machine_of c log sessions)
      → (behind : After) (late : Step) → Simulates behind late
      → Simulates (Bytes.block c m s q x behind out) (Plain.block (machine_of c log sessions) s q late out)
  unfolding Bytes.block_by Plain.block
  block_simulates e log sessions h behind late k =
      rw (session_of_law c m _ h s)
      (cond_both Simulates (leb (sequence_of (session_at m.sessions s)) (nth c.applied (studio_of c s))) _ _ _ _
      (answer_simulates _ _ _ (next_known number_after after_bounded) e log sessions h copy) k)
    where
      copy : copy_at m.library (studio_of c s) ≡ L log (nth c.applied (studio_of c s))
      copy = h.replicas (studio_of c s) studio_placed.0 studio_placed.1

-- read and forward: what each does where the studio is behind
module _ (c : Control) (m : Memory) (s : ℕ) (request out : List ℕ) where
  waiting : Request
  waiting = request_of (session_at m.sessions s)

  read_rows_of : List Row
  unfolding waiting
  read_rows_of = read_rows s (studio_of c s) waiting request (length out)

  abbrev Passed : Type 0
  Passed = ReadAccepted s (studio_of c s) waiting request (length out)

  module _ (rule : Rule) (bound : Bounded rule) (h : OfLayout c m) where
    reading_keeps : (behind : After) → (Passed → OfLayout behind.control behind.memory)
        → OfLayout (Bytes.reading_by rule c m s request behind out).control (Bytes.reading_by rule c m s request behind out).memory
    unfolding read_stop read_rows_of waiting
    reading_keeps behind later =
        let f = formed c m h in
        rw (memory_passes c m read_rows_of h.lengths h.layout)
        (unless_case (λ (r : After). OfLayout r.control r.memory) (stopped read_rows_of) _ _ (λ _ _. h)
        (λ e. let p = read_passed _ _ _ _ _ e in
        block_keeps c m s p.who (arrays c m h) f (request_of request) _ (own_bytes c m.sessions f.sessions s p.who) out rule bound _ (later p)))

    pub read_keeps : OfLayout (Bytes.read_by rule c m s request out).control (Bytes.read_by rule c m s request out).memory
    unfolding Bytes.read_by
    read_keeps = reading_keeps _ (λ p.
        let f = formed c m h in
        of_layout_law _ _ (arrays c m h) (session_formed c m s p.who (arrays c m h) f _ request (request_bytes request p.form)
        (own_sequence c m.sessions f.sessions s p.who)))

    pub forward_keeps : OfLayout (Bytes.forward_by rule c m s request out).control (Bytes.forward_by rule c m s request out).memory
    unfolding Bytes.forward_by
    forward_keeps = reading_keeps _ (λ p.
        let f = formed c m h in
        answer_keeps c m s p.who (arrays c m h) f (request_of request) _ (own_bytes c m.sessions f.sessions s p.who) out _ _ _ (omega arith))

  module _ (log : List Transaction) (sessions : List Session) (h : Represents c m (machine_of c log sessions)) where
    f : Formed c m
    f = formed c m h.form

    reading_simulates : (behind : After) (late : Step) → (Passed → Simulates behind late)
        → Simulates (Bytes.reading_by number_after c m s request behind out) (Plain.reading (machine_of c log sessions) s request late out)
    unfolding read_stop read_rows_of waiting
    reading_simulates behind late later =
        rw (memory_passes c m read_rows_of h.form.lengths h.form.layout, session_of_law c m _ h s)
        (unless_both Simulates (stopped read_rows_of) _ _ _ _
        (λ _ _. record { answer = refl; output = refl; next = h })
        (λ e. let p = read_passed _ _ _ _ _ e in
        block_simulates c m s p.who (arrays c m h.form) f (request_of request) _ (own_bytes c m.sessions f.sessions s p.who) out p.idle log sessions h _ _
        (later p)))

    pub read_simulates : Simulates (Bytes.read c m s request out) (Plain.read (machine_of c log sessions) s request out)
    unfolding Bytes.read_by Plain.read Plain.wait
    read_simulates = reading_simulates _ _ (λ p. rw (session_of_law c m _ h s) (record {
      answer = refl;
      output = refl;
      next = session_represents c m s p.who (arrays c m h.form) f _ request (request_bytes request p.form)
          (own_sequence c m.sessions f.sessions s p.who) log sessions h;
    }))

    pub forward_simulates : Simulates (Bytes.forward c m s request out) (Plain.forward (machine_of c log sessions) s request out)
    unfolding Bytes.forward_by Plain.forward waiting
    forward_simulates = reading_simulates _ _ (λ p.
        rw (log_length c m _ h)
        (answer_simulates c m s p.who (arrays c m h.form) f (request_of request) _ (own_bytes c m.sessions f.sessions s p.who) out _ _ _ (omega arith)
        p.idle log sessions h h.primary))

-- a read that no row stops, of a session whose number n its studio has not applied
pub waits_for : (c : Control) (m : Memory) (s : ℕ) (request out : List ℕ) (n : ℕ) → sequence_of (session_at m.sessions s) ≡ n → nth c.applied (studio_of c s) < n
    → read_stop c m s request (length out) ≡ 0 → (Bytes.read c m s request out).answer ≡ waits n
unfolding Bytes.read_by Bytes.block_by unless
waits_for c m s request out n e u passes = rw (passes, e, lt-leb n (nth c.applied (studio_of c s)) u)

module _ (c : Control) (m : Memory) (s : ℕ) (out : List ℕ) where
  collect_rows_of : List Row
  collect_rows_of = collect_rows s (studio_of c s) (request_of (session_at m.sessions s)) (length out)

  pub collect_keeps : (rule : Rule) → Bounded rule → OfLayout c m → OfLayout (Bytes.collect_by rule c m s out).control (Bytes.collect_by rule c m s out).memory
  unfolding Bytes.collect_by collect_stop collect_rows_of
  collect_keeps rule bound h =
      rw (memory_passes c m collect_rows_of h.lengths h.layout)
      (unless_case (λ (r : After). OfLayout r.control r.memory) (stopped collect_rows_of) _ _ (λ _ _. h)
      (λ e. block_keeps c m s (collect_passed _ _ _ _ e).who (arrays c m h) (formed c m h) _ (zeros 80) empty_bytes out rule bound _ h))

  pub collect_simulates : (log : List Transaction) (sessions : List Session) → Represents c m (machine_of c log sessions)
      → Simulates (Bytes.collect c m s out) (Plain.collect (machine_of c log sessions) s out)
  unfolding Bytes.collect_by collect_stop Plain.collect Plain.wait collect_rows_of
  collect_simulates log sessions h =
      rw (memory_passes c m collect_rows_of h.form.lengths h.form.layout, session_of_law c m _ h s)
      (unless_both Simulates (stopped collect_rows_of) _ _ _ _
      (λ _ _. record { answer = refl; output = refl; next = h })
      (λ e. block_simulates c m s (collect_passed _ _ _ _ e).who (arrays c m h.form) (formed c m h.form) _ (zeros 80) empty_bytes out empty_request log sessions h _ _
      (record { answer = refl; output = refl; next = rw same h })))
    where
      -- a collect that waits again stores what is stored
      same : set sessions (s - 1) (shown c m.sessions s) ≡ sessions
      same = ap (set sessions (s - 1)) (sym (session_of_law c m _ h s)) ∙ set-get_or sessions (s - 1) _
