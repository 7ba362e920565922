-- 02, S-7, on bytes: what a move leaves, the number after an answered read, and the reads of a session that has moved.
use mathlib.Core.Path.{◌≡◌, refl, sym, ap, ◌∙◌}
use mathlib.Core.List.{List, []}
use Prim.Native.Nat.{ℕ, ◌-◌, ◌≤◌, ◌<◌, max}
use native.Mathlib.Omega.{arith}
use lib.Dec.{leb}
use lib.ListN.{length}
use lib.Seq.{get_or-set_same, set-get_or}
use borrow.Author.Tests.{le-leb}
use Rattle.carts.specs.Bytes.{zeros}
use Rattle.carts.proofs.TestLaws.{by_cond}
use Rattle.replication.specs.Answer.{done, waits, answered}
use Rattle.replication.specs.Memory.{Memory, Arrays, copy_at, session_at, sequence_of, nth, studio_of}
use Rattle.replication.specs.Request.{Request, request_of, found_in}
use Rattle.replication.specs.Rows.{unless, move_stop, read_stop, collect_stop}
use Rattle.replication.specs.Call as Call
use Rattle.replication.specs.Call.{Call}
use Rattle.replication.specs.Calls as Bytes
use Rattle.replication.specs.Calls.{After, after, Rule, number_after, number_kept, with_studio}
use Rattle.replication.specs.declared.control.Control.{Control}
use Rattle.replication.proofs.Formed.{Formed}
use Rattle.replication.proofs.RowLaws.{unless_case, unless_accepted}
use Rattle.replication.proofs.DecideLaws.{KnownSession, accepted}
use Rattle.replication.proofs.Accepted.{read_passed, collect_passed, move_passed}
use Rattle.machine.specs.OneCopy.{kind_of}
use Rattle.machine.specs.Asked.{asker_by, asker}
use Rattle.machine.proofs.Shown.{refuses, counts, holds_back}
use Rattle.refinement.specs.Represents.{OfLayout}
use Rattle.refinement.proofs.Sessions.{SessionBytes, empty_bytes, own_bytes, own_sequence, same, sequence_set}
use Rattle.refinement.proofs.Arrays.{arrays}
use Rattle.refinement.proofs.Read.{waits_for}
use Rattle.refinement.proofs.Simulation.{keeps_layout}

-- a move that no row stops
module _ (c : Control) (m : Memory) (s i : ℕ) where
  pub move_leaves : move_stop c m s i ≡ 0 → Bytes.move c m s i ≡ after (done i) (with_studio c s i) m []
  unfolding Bytes.move
  move_leaves e = sym (unless_accepted _ _ _ e)

  -- to the studio where the session is
  pub move_here : i ≡ studio_of c s → with_studio c s i ≡ c
  unfolding with_studio studio_of
  move_here e = rw (e, set-get_or c.session_studios (s - 1) 0)

-- an answer with state k leaves the greater of the session's number and k
module _ (c : Control) (m : Memory) (k found : ℕ) where
  abbrev Raised : ℕ → After → Type 0
  Raised s r = r.answer ≡ answered k found → sequence_of (session_at r.memory.sessions s) ≡ max (sequence_of (session_at m.sessions s)) k

  module _ (s : ℕ) (f : Formed c m) (w : KnownSession s (studio_of c s)) (q : Request) (x : List ℕ) (b : SessionBytes x) (out : List ℕ) where
    answer_raises : (state : ℕ) (copy : List ℕ) (n : ℕ) → n ≡ max (sequence_of (session_at m.sessions s)) state → Raised s (Bytes.answer_from state copy q c m s n x out)
    unfolding Bytes.answer_from
    answer_raises state copy n e a =
        let shown : state ≡ k = cc in
        rw (same c m.sessions f.sessions.size s w n x b) (sequence_set n x (omega (arith, b.size)) ∙ e ∙ ap (max (sequence_of (session_at m.sessions s))) shown)

    block_raises : (behind : After) → Raised s behind → Raised s (Bytes.block c m s q x behind out)
    unfolding Bytes.block_by number_after
    block_raises behind later = by_cond (Raised s) (leb (sequence_of (session_at m.sessions s)) (nth c.applied (studio_of c s))) _ _
        (λ _. answer_raises _ _ _ refl) (λ _. later)

  pub call_raises : (x : Call) → Raised (asker x) (Bytes.call c m x)
  unfolding Bytes.call_by Bytes.commit Bytes.refused_commit Bytes.preview Bytes.send Bytes.refresh Bytes.read_by Bytes.collect_by Bytes.forward_by Bytes.write Bytes.move Bytes.load Bytes.retire read_stop collect_stop asker_by kind_of
  call_raises (Call.commit s bytes) = unless_case (Raised 0) _ _ _ (λ n e. refuses) (λ e. counts)
  call_raises (Call.preview s bytes) = unless_case (λ (r : After). Raised 0 (after r.answer c m [])) _ _ _ (λ n e. refuses) (λ e. counts)
  call_raises (Call.send i) = unless_case (Raised 0) _ _ _ (λ n e. refuses) (λ e. counts)
  call_raises (Call.refresh i) = unless_case (Raised 0) _ _ _ (λ n e. refuses) (λ e. counts)
  call_raises (Call.read s request out) = unless_case (Raised s) _ _ _ (λ n e. refuses) (λ e.
      let (f, rows) = accepted c m _ e in
      let w = (read_passed _ _ _ _ _ rows).who in
      block_raises s f w (request_of request) _ (own_bytes c m.sessions f.sessions s w) out _ holds_back)
  call_raises (Call.collect s out) = unless_case (Raised s) _ _ _ (λ n e. refuses) (λ e.
      let (f, rows) = accepted c m _ e in
      block_raises s f (collect_passed _ _ _ _ rows).who _ (zeros 80) empty_bytes out _ holds_back)
  call_raises (Call.forward s request out) = unless_case (Raised s) _ _ _ (λ n e. refuses) (λ e.
      let (f, rows) = accepted c m _ e in
      let w = (read_passed _ _ _ _ _ rows).who in
      let own = own_bytes c m.sessions f.sessions s w in
      block_raises s f w (request_of request) _ own out _
      (answer_raises s f w (request_of request) _ own out c.commits (copy_at m.library 0) c.commits (omega (arith, own_sequence c m.sessions f.sessions s w))))
  call_raises (Call.write n out) = unless_case (Raised 0) _ _ _ (λ n e. refuses) (λ e. counts)
  call_raises (Call.move s i) = unless_case (Raised 0) _ _ _ (λ n e. refuses) (λ e. counts)
  call_raises Call.load = unless_case (Raised 0) _ _ _ (λ n e. refuses) (λ e. counts)
  call_raises Call.retire = unless_case (Raised 0) _ _ _ (λ n e. refuses) (λ e. counts)

-- where the session is then
there : (c : Control) (m : Memory) (s i : ℕ) → Arrays c → move_stop c m s i ≡ 0 → nth (with_studio c s i).applied (studio_of (with_studio c s i) s) ≡ nth c.applied i
unfolding move_stop with_studio studio_of
there c m s i a moves =
    let w = (move_passed _ _ _ _ _ (accepted c m _ moves).1).who in
    ap (nth c.applied) (get_or-set_same c.session_studios (s - 1) i 0 (omega (arith, a.session_studios, w.low, w.high)))

-- a session of number n moves to a studio that has applied fewer: a read straight afterwards that no row stops waits for n
moved_waits : (c : Control) (m : Memory) (s i n : ℕ) → Arrays c → move_stop c m s i ≡ 0 → sequence_of (session_at m.sessions s) ≡ n → nth c.applied i < n
    → let r = Bytes.move c m s i in
    (request out : List ℕ) → read_stop r.control r.memory s request (length out) ≡ 0 → (Bytes.read r.control r.memory s request out).answer ≡ waits n
moved_waits c m s i n a moves e u = rw (move_leaves c m s i moves) (λ request out passes.
    waits_for (with_studio c s i) m s request out n e (rw (there c m s i a moves) u) passes)

-- so it does after an answer with state k, for k or more
pub shown_moved_waits : (c : Control) (m : Memory) → OfLayout c m → (k found : ℕ) (x : Call) → let t = Bytes.call c m x in t.answer ≡ answered k found
    → (i : ℕ) → move_stop t.control t.memory (asker x) i ≡ 0 → nth t.control.applied i < k
    → let r = Bytes.move t.control t.memory (asker x) i in
    (request out : List ℕ) → read_stop r.control r.memory (asker x) request (length out) ≡ 0
    → (Bytes.read r.control r.memory (asker x) request out).answer ≡ waits (max (sequence_of (session_at m.sessions (asker x))) k)
shown_moved_waits c m h k found x answer i moves u =
    moved_waits _ _ (asker x) i _ (arrays _ _ (keeps_layout c m h x)) moves (call_raises c m k found x answer) (omega arith)

-- by the rule of before a read leaves control and the session's number as they were
kept_leaves : (c : Control) (m : Memory) (s : ℕ) (request out : List ℕ) (k found : ℕ) → let t = Bytes.read_by number_kept c m s request out in
    t.answer ≡ answered k found → (t.control ≡ c) × (sequence_of (session_at t.memory.sessions s) ≡ sequence_of (session_at m.sessions s))
unfolding Bytes.read_by Bytes.block_by Bytes.answer_from number_kept read_stop
kept_leaves c m s request out k found = unless_case Kept _ _ _ (λ n e. refuses) (λ e.
    let (f, rows) = accepted c m _ e in
    let w = (read_passed _ _ _ _ _ rows).who in
    let own = own_bytes c m.sessions f.sessions s w in
    by_cond Kept (leb (sequence_of (session_at m.sessions s)) (nth c.applied (studio_of c s))) _ _
    (λ _ _. (refl, rw (same c m.sessions f.sessions.size s w _ _ own) (sequence_set _ _ (omega (arith, own.size))))) (λ _. holds_back))
  where
    Kept : After → Type 0
    Kept r = r.answer ≡ answered k found → (r.control ≡ c) × (sequence_of (session_at r.memory.sessions s) ≡ sequence_of (session_at m.sessions s))

-- a read that no row stops, of a session whose number its studio has reached
answers_now : (rule : Rule) (c : Control) (m : Memory) (s : ℕ) (request out : List ℕ) (state : ℕ) → nth c.applied (studio_of c s) ≡ state → sequence_of (session_at m.sessions s) ≤ state
    → read_stop c m s request (length out) ≡ 0 → (Bytes.read_by rule c m s request out).answer ≡ answered state (found_in (copy_at m.library (studio_of c s)) (request_of request))
unfolding Bytes.read_by Bytes.block_by Bytes.answer_from unless
answers_now rule c m s request out state e u passes = rw (passes, e, le-leb (sequence_of (session_at m.sessions s)) state u)

-- so after a move to a studio that has reached that number, a read that no row stops is answered there, whatever the session was shown before
pub kept_walks_back : (c : Control) (m : Memory) → OfLayout c m → (s : ℕ) (request out : List ℕ) (k found : ℕ) → let t = Bytes.read_by number_kept c m s request out in
    t.answer ≡ answered k found → (i : ℕ) → move_stop t.control t.memory s i ≡ 0 → sequence_of (session_at m.sessions s) ≤ nth c.applied i
    → let r = Bytes.move t.control t.memory s i in
    (next lent : List ℕ) → read_stop r.control r.memory s next (length lent) ≡ 0
    → (j : ℕ) × ((Bytes.read_by number_kept r.control r.memory s next lent).answer ≡ answered (nth c.applied i) j)
kept_walks_back c m h s request out k found answer i moves u =
    let t : After = Bytes.read_by number_kept c m s request out in
    let (control, number) = kept_leaves c m s request out k found answer in
    let a : Arrays t.control = rw control (arrays c m h) in
    let state : nth (with_studio t.control s i).applied (studio_of (with_studio t.control s i) s) ≡ nth c.applied i =
    there t.control t.memory s i a moves ∙ ap (λ (c : Control). nth c.applied i) control in
    rw (move_leaves t.control t.memory s i moves)
    (λ next lent passes. (_, answers_now number_kept (with_studio t.control s i) t.memory s next lent (nth c.applied i) state (rw number u) passes))
