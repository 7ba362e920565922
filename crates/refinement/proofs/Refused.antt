-- A refused call changes nothing, from any control and memory, but for a commit's session where 8 refuses it.
use mathlib.Core.Path.{◌≡◌, refl, sym, ap, ◌∙◌}
use mathlib.Core.List.{List, []}
use Prim.Native.Nat.{ℕ, suc}
use native.Mathlib.Omega.{arith}
use lib.Dec.{leb}
use borrow.Author.Tests.{ne_eqb}
use Rattle.carts.specs.Bytes.{zeros}
use Rattle.carts.proofs.TestLaws.{by_cond}
use Rattle.replication.specs.Answer.{Answer, refused, done, waits, answered}
use Rattle.replication.specs.Memory.{Memory, session_at, sequence_of, with_number, nth, studio_of}
use Rattle.replication.specs.Request.{Request}
use Rattle.replication.specs.Rows.{unless}
use Rattle.replication.specs.Call.{Call, commit, preview, send, refresh, read, collect, forward, write, move, load, retire}
use Rattle.replication.specs.Calls as Bytes
use Rattle.replication.specs.Calls.{After, after, refusal, with_sessions, control_of, told_sessions}
use Rattle.replication.specs.declared.control.Control.{Control}
use Rattle.replication.proofs.RowLaws.{unless_case}
use Rattle.refinement.specs.Lent.{lent}

pub not_done : (n : ℕ) {k : ℕ} → done k ≡ refused n → ⊥
not_done n e = let z : ◌≡◌ {A = ℕ} 0 1 = cc in omega arith

not_waits : (n : ℕ) {k : ℕ} → waits k ≡ refused n → ⊥
not_waits n e = let z : ◌≡◌ {A = ℕ} 0 1 = cc in omega arith

not_answered : (n : ℕ) {k found : ℕ} → answered k found ≡ refused n → ⊥
not_answered n e = let z : ◌≡◌ {A = ℕ} 0 1 = cc in omega arith

-- rows that refuse with their numbers, and a call that is not refused where none of them stops it
by_rows : (n : ℕ) (left : ℕ → After) → ((j : ℕ) → (left j).answer ≡ refused j) → (k : ℕ) (good : After) → (good.answer ≡ refused n → ⊥)
    → (unless k left good).answer ≡ refused n → unless k left good ≡ left n
by_rows n left numbers k good h = unless_case (λ (r : After). r.answer ≡ refused n → r ≡ left n) k _ _
    (λ j e a. let p : refused (suc j) ≡ refused n = sym (numbers (suc j)) ∙ a in let same : suc j ≡ n = cc in ap left same)
    (λ e a. absurd (h a))

module _ (n : ℕ) (c : Control) (m : Memory) where
  -- what was passed and lent
  as_it_was : (out : List ℕ) (k : ℕ) (good : After) → (good.answer ≡ refused n → ⊥)
      → (unless k (refusal c m out) good).answer ≡ refused n → unless k (refusal c m out) good ≡ refusal c m out n
  as_it_was out = by_rows n (refusal c m out) (λ j. refl)

  block_answers : (s : ℕ) (q : Request) (x : List ℕ) (behind : After) (out : List ℕ) → (behind.answer ≡ refused n → ⊥)
      → (Bytes.block c m s q x behind out).answer ≡ refused n → ⊥
  unfolding Bytes.block_by Bytes.answer_from
  block_answers s q x behind out h = by_cond (λ (r : After). r.answer ≡ refused n → ⊥) (leb (sequence_of (session_at m.sessions s)) (nth c.applied (studio_of c s))) _ _
      (λ _. not_answered n) (λ _. h)

  commit_refused : (s : ℕ) (bytes : List ℕ) → (Bytes.commit c m s bytes).answer ≡ refused n → Bytes.commit c m s bytes ≡ Bytes.refused_commit c m s n
  unfolding Bytes.commit Bytes.refused_commit
  commit_refused s bytes = by_rows n (Bytes.refused_commit c m s) (λ j. refl) _ _ (not_done n)

  -- by another row than 8
  other_row : (s : ℕ) → (n ≡ 8 → ⊥) → Bytes.refused_commit c m s n ≡ refusal c m [] n
  unfolding Bytes.refused_commit told_sessions
  other_row s u = rw (ne_eqb n 8 u)

  pub call_refused : (x : Call) → (Bytes.call c m x).answer ≡ refused n → ((s : ℕ) (bytes : List ℕ) → x ≡ commit s bytes → n ≡ 8 → ⊥)
      → Bytes.call c m x ≡ refusal c m (lent x) n
  unfolding Bytes.call_by Bytes.preview Bytes.send Bytes.refresh Bytes.read_by Bytes.collect_by Bytes.forward_by Bytes.write Bytes.move Bytes.load Bytes.retire Bytes.answer_from lent
  call_refused (commit s bytes) a u = commit_refused s bytes a ∙ other_row s (u s bytes refl)
  call_refused (preview s bytes) a u = ap (λ (a : Answer). after a c m []) a
  call_refused (send i) a u = as_it_was [] _ _ (not_done n) a
  call_refused (refresh i) a u = as_it_was [] _ _ (not_done n) a
  call_refused (read s request out) a u = as_it_was out _ _ (block_answers s _ _ _ out (not_waits n)) a
  call_refused (collect s out) a u = as_it_was out _ _ (block_answers s _ _ _ out (not_waits n)) a
  call_refused (forward s request out) a u = as_it_was out _ _ (block_answers s _ _ _ out (not_answered n)) a
  call_refused (write j out) a u = as_it_was out _ _ (not_done n) a
  call_refused (move s i) a u = as_it_was [] _ _ (not_done n) a
  call_refused load a u = as_it_was [] _ _ (not_done n) a
  call_refused retire a u = as_it_was [] _ _ (not_done n) a

-- by row 8
pub told_leaves : (c : Control) (m : Memory) (s : ℕ) (bytes : List ℕ) → (Bytes.commit c m s bytes).answer ≡ refused 8
    → Bytes.commit c m s bytes ≡ after (refused 8) c (with_sessions m (with_number m.sessions s c.commits)) []
unfolding Bytes.refused_commit told_sessions
told_leaves c m s bytes a = commit_refused 8 c m s bytes a

pub setup_refused : (n : ℕ) (before : Memory) (studios : ℕ) (bytes : List ℕ) → (Bytes.setup before studios bytes).answer ≡ refused n
    → Bytes.setup before studios bytes ≡ refusal (control_of 0 (zeros 16) 0 0) before [] n
unfolding Bytes.setup
setup_refused n before studios bytes = as_it_was n (control_of 0 (zeros 16) 0 0) before [] _ _ (not_done n)
