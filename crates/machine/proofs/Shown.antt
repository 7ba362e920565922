-- An answered read shows the carts of the library of its state, which is not below its session's number, and becomes that number.
use Prim.Native.Nat.{ℕ, zero, suc, ◌+◌, ◌*◌, ◌-◌, ◌≤◌, ◌<◌}
use native.Mathlib.Omega.{arith}
use mathlib.Core.Path.{◌≡◌}
use mathlib.Core.Bool.{true}
use mathlib.Core.List.{List, [], ◌∷◌, ◌++◌, append_assoc}
use lib.ListN.{length, drop, get_or}
use lib.Seq.{get_or-set_same, take_at, drop-append-add}
use Rattle.carts.specs.Bytes.{part, within, every}
use Rattle.carts.specs.Cart.{copy_size, cart_at}
use Rattle.carts.specs.Transaction.{L}
use Rattle.carts.specs.Title.{shown_by_numbers}
use Rattle.carts.proofs.TestLaws.{and_left, and_right, within_high}
use Rattle.carts.proofs.CartLaws.{length_cart}
use Rattle.replication.specs.Answer.{refused, done, waits, answered}
use Rattle.replication.specs.Request.{nothing, needed, found_in, shown_from}
use Rattle.replication.specs.Call as Call
use Rattle.replication.proofs.RowLaws.{unless_case}
use Rattle.replication.proofs.ShownLaws.{Askable, request_askable}
use Rattle.replication.proofs.DecideLaws.{KnownSession}
use Rattle.replication.proofs.Accepted.{read_passed, collect_passed}
use Rattle.machine.specs.Machine.{Machine, session, Step, step, commits, session_of, with_session, refused_commit, commit, preview, send, refresh, answer_from, block, wait, read, collect, forward, write, move, load, retire, call}
use Rattle.machine.specs.OneCopy.{kind_of}
use Rattle.machine.specs.Asked.{asked_by, asked, asker_by, asker}
use Rattle.machine.proofs.Cases.{state_for, block_case}
use Rattle.machine.proofs.Sound.{Sound, applied_commits}
use Rattle.machine.proofs.Kept.{number_after_law}

-- no other answer is one with a state
pub refuses : {n k found : ℕ} {A : Type 0} → refused n ≡ answered k found → A
refuses e = let z : ◌≡◌ {A = ℕ} 0 1 = cc in absurd (omega arith)

pub counts : {n k found : ℕ} {A : Type 0} → done n ≡ answered k found → A
counts e = let z : ◌≡◌ {A = ℕ} 0 1 = cc in absurd (omega arith)

pub holds_back : {n k found : ℕ} {A : Type 0} → waits n ≡ answered k found → A
holds_back e = let z : ◌≡◌ {A = ℕ} 0 1 = cc in absurd (omega arith)

-- a call x that left r, answered with state k and found
pub record Shown (m : Machine) (x : Call.Call) (k found : ℕ) (r : Step) : Type 0 where
  pub known : k ≤ commits m
  -- from its session's number before, to its number now
  pub reached : (session_of m (asker x)).number ≤ k
  pub left : k ≤ (session_of r.next (asker x)).number
  pub askable : Askable (asked m x)
  pub count : found ≡ found_in (L m.log k) (asked m x)
  pub rest : List ℕ
  pub output : r.output ≡ shown_from (L m.log k) (asked m x) ++ rest

module _ (m : Machine) (f : Sound m) (k found : ℕ) where
  abbrev Shows : Call.Call → Step → Type 0
  Shows x r = r.answer ≡ answered k found → Shown m x k found r

  -- a session that row 3 does not stop, and what it may ask
  module _ (x : Call.Call) (out : List ℕ) (w : KnownSession (asker x) (session_of m (asker x)).studio) (a : Askable (asked m x)) where
    -- an answer with a state that is known and reached, after which the session's number n is not below it
    answer_shows : (state n : ℕ) → state ≤ commits m → (session_of m (asker x)).number ≤ state → state ≤ n → Shows x (answer_from state n (asked m x) m (asker x) out)
    unfolding answer_from
    answer_shows state n known reached left e =
        let same : state ≡ k = cc in
        let z = f.sixteen in
        let number : k ≤ (session_of (with_session m (asker x) (session (session_of m (asker x)).studio n nothing)) (asker x)).number =
        rw (get_or-set_same m.sessions (asker x - 1) (session (session_of m (asker x)).studio n nothing) (session 0 0 nothing) (omega (arith, w.low, w.high))) (omega arith) in
        record { known = rw (← same) known; reached = rw (← same) reached; left = number; askable = a; count = rw (← same) cc; rest = drop (needed (asked m x)) out; output = rw same }

    block_shows : (behind : Step) → Shows x behind → Shows x (block m (asker x) (asked m x) behind out)
    block_shows behind later = block_case m (asker x) _ _ out (Shows x) (λ u.
        answer_shows (state_for m (asker x)) _ (applied_commits m f _) u (omega (arith, number_after_law (session_of m (asker x)).number (state_for m (asker x))))) (λ u. later)

    -- shown all that is committed
    primary_shows : Shows x (answer_from (commits m) (commits m) (asked m x) m (asker x) out)
    primary_shows = answer_shows (commits m) (commits m) (omega arith) (f.number_le (asker x - 1)) (omega arith)

    waits_on : let s = asker x in Shows x (block m s (asked m x) (wait m s (asked m x) out) out)
    unfolding wait
    waits_on = block_shows _ holds_back

  pub call_shows : (x : Call.Call) → Shows x (call m x)
  unfolding call commit refused_commit preview send refresh read collect forward write move load retire asked_by asker_by kind_of
  call_shows (Call.commit s bytes) = unless_case (Shows (Call.commit s bytes)) _ _ _ (λ n e. refuses) (λ e. counts)
  call_shows (Call.preview s bytes) = unless_case (λ (r : Step). r.answer ≡ answered k found → Shown m (Call.preview s bytes) k found (step r.answer m [])) _ _ _ (λ n e. refuses) (λ e. counts)
  call_shows (Call.send i) = unless_case (Shows (Call.send i)) _ _ _ (λ n e. refuses) (λ e. counts)
  call_shows (Call.refresh i) = unless_case (Shows (Call.refresh i)) _ _ _ (λ n e. refuses) (λ e. counts)
  call_shows (Call.read s request out) = unless_case (Shows (Call.read s request out)) _ _ _ (λ n e. refuses) (λ e.
      let a = read_passed s (session_of m s).studio (session_of m s).waiting request (length out) e in
      waits_on (Call.read s request out) out a.who (request_askable request a.form))
  call_shows (Call.collect s out) = unless_case (Shows (Call.collect s out)) _ _ _ (λ n e. refuses) (λ e.
      waits_on (Call.collect s out) out (collect_passed s (session_of m s).studio (session_of m s).waiting (length out) e).who (f.askable (s - 1)))
  call_shows (Call.forward s request out) = unless_case (Shows (Call.forward s request out)) _ _ _ (λ n e. refuses) (λ e.
      let x : Call.Call = Call.forward s request out in
      let a = read_passed s (session_of m s).studio (session_of m s).waiting request (length out) e in
      let asked = request_askable request a.form in
      block_shows x out a.who asked _ (primary_shows x out a.who asked))
  call_shows (Call.write n out) = unless_case (Shows (Call.write n out)) _ _ _ (λ n e. refuses) (λ e. counts)
  call_shows (Call.move s i) = unless_case (Shows (Call.move s i)) _ _ _ (λ n e. refuses) (λ e. counts)
  call_shows Call.load = unless_case (Shows Call.load) _ _ _ (λ n e. refuses) (λ e. counts)
  call_shows Call.retire = unless_case (Shows Call.retire) _ _ _ (λ n e. refuses) (λ e. counts)

-- place i of a read by numbers
pub numbers_shown : (copy : List ℕ) (cs rest : List ℕ) (i : ℕ) → length copy ≡ copy_size → every (within 1 128) cs ≡ true → i < length cs
    → part (shown_by_numbers copy cs ++ rest) (80 * i) 80 ≡ cart_at copy (get_or cs i 0)
unfolding shown_by_numbers every
numbers_shown copy [] rest i l a u = absurd (omega arith)
numbers_shown copy (c ∷ cs) rest zero l a u = rw append_assoc (take_at (cart_at copy c) _ 80 (length_cart copy c l (within_high 1 128 c (and_left (within 1 128 c) _ a))))
numbers_shown copy (c ∷ cs) rest (suc i) l a u =
    let size = length_cart copy c l (within_high 1 128 c (and_left (within 1 128 c) (every (within 1 128) cs) a)) in
    let skip : 80 * suc i ≡ length (cart_at copy c) + 80 * i = omega arith in
    rw (append_assoc, skip, drop-append-add) (numbers_shown copy cs rest i l (and_right (within 1 128 c) (every (within 1 128) cs) a) (omega arith))
