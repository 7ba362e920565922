-- What is true of the machine after every list of calls, and the changes that keep it so.
use Prim.Native.Nat.{ℕ, zero, suc, ◌-◌, ◌≤◌}
use native.Mathlib.Omega.{arith}
use mathlib.Core.Path.{◌≡◌, ap, ◌∙◌}
use mathlib.Core.Bool.{Bool, true, not}
use mathlib.Core.List.{List, [], ◌∷◌, ◌++◌, map}
use lib.Dec.{leb, eqb}
use lib.ListN.{length, get_or, length-set, length-map, get_or-map}
use borrow.Author.Tests.{leb-true, eqb-true, not-false}
use Rattle.carts.specs.Bytes.{within, all, every}
use Rattle.carts.specs.Transaction.{Transaction}
use Rattle.replication.specs.Memory.{session_count, studio_count, nth}
use Rattle.replication.specs.Answer.{done}
use Rattle.replication.specs.Request.{nothing}
use Rattle.replication.specs.Rows.{row, stopped, setup_rows}
use Rattle.carts.proofs.TestLaws.{and_left, and_right, all_at}
use Rattle.carts.proofs.ZeroLaws.{zeros_at}
use Rattle.carts.proofs.OperationLaws.{Operations}
use Rattle.replication.proofs.RowLaws.{passed, unless_case}
use Rattle.replication.proofs.ShownLaws.{Askable}
use Rattle.replication.proofs.DecideLaws.{KnownSession}
use Rattle.machine.specs.Machine.{Machine, Session, session, commits, session_of, with_log, with_retired, with_sent, with_applied, with_session, Step, step, fresh, setup}
use Rattle.machine.proofs.Sort.{All, all_snoc, length_snoc}
use Rattle.machine.proofs.Updates.{set_either}

-- a session by its place in the list, counted from 0
abbrev pub session_at : List Session → ℕ → Session
session_at l k = get_or l k (session 0 0 nothing)

pub record Sound (m : Machine) : Type 0 where
  pub sixteen : length m.sessions ≡ session_count
  -- applied ≤ sent ≤ commits, and no session's number is above commits
  pub applied_le : (k : ℕ) → get_or m.applied k 0 ≤ get_or m.sent k 0
  pub sent_le : (k : ℕ) → get_or m.sent k 0 ≤ commits m
  pub number_le : (k : ℕ) → (session_at m.sessions k).number ≤ commits m
  -- 02, S-9: "retired ≤ applied for studios 1 to S", and no more is retired than committed
  pub retired_le : (i : ℕ) → 1 ≤ i → i ≤ m.studios → m.retired ≤ nth m.applied i
  pub retired_commits : m.retired ≤ commits m
  -- each session's studio is one of them, or 0
  pub placed : (k : ℕ) → (session_at m.sessions k).studio ≤ m.studios
  -- the log and the waiting reads are of form
  pub formed : All Operations m.log
  pub askable : (k : ℕ) → Askable (session_at m.sessions k).waiting

pub applied_commits : (m : Machine) → Sound m → (k : ℕ) → get_or m.applied k 0 ≤ commits m
applied_commits m f k = omega (arith, f.applied_le k, f.sent_le k)

-- the studio of a session in use has applied all that is retired
pub retired_applied : (m : Machine) → Sound m → (s : ℕ) → KnownSession s (session_of m s).studio → m.retired ≤ nth m.applied (session_of m s).studio
retired_applied m f s who = let used = who.used in f.retired_le (session_of m s).studio (omega arith) (f.placed (s - 1))

module _ (m : Machine) (f : Sound m) where
  -- a session changed
  pub with_session_law : (s : ℕ) (x : Session) → x.number ≤ commits m → x.studio ≤ m.studios → Askable x.waiting → Sound (with_session m s x)
  with_session_law s x u p a = record {
    sixteen = length-set m.sessions (s - 1) x ∙ f.sixteen;
    applied_le = f.applied_le;
    sent_le = f.sent_le;
    number_le = λ k. set_either (λ (y : Session). y.number ≤ commits m) m.sessions (s - 1) x _ k (λ e. u) (f.number_le k);
    retired_le = f.retired_le;
    retired_commits = f.retired_commits;
    placed = λ k. set_either (λ (y : Session). y.studio ≤ m.studios) m.sessions (s - 1) x _ k (λ e. p) (f.placed k);
    formed = f.formed;
    askable = λ k. set_either (λ (y : Session). Askable y.waiting) m.sessions (s - 1) x _ k (λ e. a) (f.askable k);
  }

  -- a transaction appended
  pub with_transaction : (t : Transaction) → Operations t → Sound (with_log m (m.log ++ (t ∷ [])))
  with_transaction t h = record {
    sixteen = f.sixteen;
    applied_le = f.applied_le;
    sent_le = λ k. rw (length_snoc m.log t) (omega (arith, f.sent_le k));
    number_le = λ k. rw (length_snoc m.log t) (omega (arith, f.number_le k));
    retired_le = f.retired_le;
    retired_commits = rw (length_snoc m.log t) (omega (arith, f.retired_commits));
    placed = f.placed;
    formed = all_snoc Operations m.log t f.formed h;
    askable = f.askable;
  }

  -- a studio's sent and its applied changed
  pub with_sent_law : (i n : ℕ) → nth m.applied i ≤ n → n ≤ commits m → Sound (with_sent m i n)
  with_sent_law i n u v = record {
    sixteen = f.sixteen;
    applied_le = λ k. set_either (λ x. get_or m.applied k 0 ≤ x) m.sent (i - 1) n 0 k (λ e. rw e u) (f.applied_le k);
    sent_le = λ k. set_either (λ x. x ≤ commits m) m.sent (i - 1) n 0 k (λ e. v) (f.sent_le k);
    number_le = f.number_le;
    retired_le = f.retired_le;
    retired_commits = f.retired_commits;
    placed = f.placed;
    formed = f.formed;
    askable = f.askable;
  }

  pub with_applied_law : (i n : ℕ) → nth m.applied i ≤ n → n ≤ nth m.sent i → Sound (with_applied m i n)
  with_applied_law i n more u = record {
    sixteen = f.sixteen;
    applied_le = λ k. set_either (λ x. x ≤ get_or m.sent k 0) m.applied (i - 1) n 0 k (λ e. rw e u) (f.applied_le k);
    sent_le = f.sent_le;
    number_le = f.number_le;
    retired_le = λ j l g. set_either (λ x. m.retired ≤ x) m.applied (i - 1) n 0 (j - 1)
        (λ e. omega (arith, more, f.retired_le j l g, ap (λ (k : ℕ). get_or m.applied k 0) e)) (f.retired_le j l g);
    retired_commits = f.retired_commits;
    placed = f.placed;
    formed = f.formed;
    askable = f.askable;
  }

  -- another count retired
  pub with_retired_law : (n : ℕ) → ((i : ℕ) → 1 ≤ i → i ≤ m.studios → n ≤ nth m.applied i) → n ≤ commits m → Sound (with_retired m n)
  with_retired_law n u v = record {
    sixteen = f.sixteen;
    applied_le = f.applied_le;
    sent_le = f.sent_le;
    number_le = f.number_le;
    retired_le = u;
    retired_commits = v;
    placed = f.placed;
    formed = f.formed;
    askable = f.askable;
  }

-- each session of a fresh system has number 0 and no waiting read
pub fresh_session : (bytes : List ℕ) (k : ℕ) → session_at (map (λ i. session i 0 nothing) bytes) k ≡ session (get_or bytes k 0) 0 nothing
fresh_session bytes k = get_or-map (λ (i : ℕ). session i 0 nothing) bytes k 0

-- no studio byte is above S
none_above : (n : ℕ) (bytes : List ℕ) → every (λ b. leb b n) bytes ≡ true → (k : ℕ) → get_or bytes k 0 ≤ n
unfolding every
none_above n [] e k = omega arith
none_above n (b ∷ bytes) e zero = leb-true b n (and_left (leb b n) (every (λ b. leb b n) bytes) e)
none_above n (b ∷ bytes) e (suc k) = none_above n bytes (and_right (leb b n) (every (λ b. leb b n) bytes) e) k

pub fresh_sound : (studios : ℕ) (bytes : List ℕ) → length bytes ≡ session_count → every (λ b. leb b studios) bytes ≡ true → Sound (fresh studios bytes)
unfolding fresh
fresh_sound studios bytes e h = record {
  sixteen = length-map bytes (λ i. session i 0 nothing) ∙ e;
  applied_le = λ k. omega arith;
  sent_le = λ k. omega (arith, zeros_at studio_count k);
  number_le = λ k. rw (fresh_session bytes k) (omega arith);
  retired_le = λ i l g. omega arith;
  retired_commits = omega arith;
  placed = λ k. rw (fresh_session bytes k) (none_above studios bytes h k);
  formed = tt;
  askable = λ k. rw (fresh_session bytes k) tt;
}

-- an accepted setup leaves a fresh machine with 16 sessions, each at a studio up to S
pub setup_case : (P : Step → Type 0) (studios : ℕ) (bytes : List ℕ) → (setup studios bytes).answer ≡ done 0
    → (length bytes ≡ session_count → every (λ b. leb b studios) bytes ≡ true → P (step (done 0) (fresh studios bytes) [])) → P (setup studios bytes)
unfolding setup setup_rows
setup_case P studios bytes accepted go =
    let tests : List Bool = within 1 studio_count studios ∷ eqb (length bytes) session_count ∷ every (λ b. leb b studios) bytes ∷ [] in
    unless_case (λ (r : Step). r.answer ≡ done 0 → P r) (stopped (row 15 (not (all tests)) ∷ [])) _ _
    (λ k e a. let z : ◌≡◌ {A = ℕ} 0 1 = cc in absurd (omega arith))
    (λ e a. let t : all tests ≡ true = not-false _ (passed 14 (not (all tests)) [] e).0 in go (eqb-true _ _ (all_at 1 tests t)) (all_at 2 tests t))
    accepted

pub setup_sound : (studios : ℕ) (bytes : List ℕ) → (setup studios bytes).answer ≡ done 0 → Sound (setup studios bytes).next
setup_sound studios bytes accepted = setup_case (λ (r : Step). Sound r.next) studios bytes accepted (fresh_sound studios bytes)
