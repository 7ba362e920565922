-- What a refused commit and the Block method leave, case by case.
use Prim.Native.Nat.{ℕ, ◌≤◌, ◌<◌}
use mathlib.Core.Path.{◌≡◌, refl}
use mathlib.Core.Bool.{Bool, true, false, cond}
use mathlib.Core.List.{List, []}
use lib.Dec.{leb}
use borrow.Author.Tests.{leb-true, leb-false, le-leb, lt-leb}
use Rattle.replication.specs.Memory.{nth}
use Rattle.replication.specs.Request.{Request}
use Rattle.replication.specs.Calls.{number_after}
use Rattle.machine.specs.Machine.{Machine, Step, refusal, session_of, told, refused_commit, answer_from, block}
use Rattle.machine.proofs.Updates.{eqb_case}

-- what session s's studio has applied
abbrev pub state_for : Machine → ℕ → ℕ
state_for m s = nth m.applied (session_of m s).studio

-- a commit refused with 8 leaves its session with the number commits; refused by another row it leaves the machine as it was
pub refused_case : (P : Step → Type 0) (m : Machine) (s n : ℕ) → (n ≡ 8 → P (refusal (told m s) [] n)) → ((n ≡ 8 → ⊥) → P (refusal m [] n))
    → P (refused_commit m s n)
unfolding refused_commit
refused_case P m s n by_8 other = eqb_case (λ b. P (refusal (cond b (told m s) m) [] n)) n 8 by_8 other

-- "if applied of the session's studio is at least the session's number, answered; else .."
module _ (m : Machine) (s : ℕ) (q : Request) (behind : Step) (out : List ℕ) where
  abbrev answer_now : Step
  answer_now = answer_from (state_for m s) (number_after (session_of m s).number (state_for m s)) q m s out

  block_now : (session_of m s).number ≤ state_for m s → block m s q behind out ≡ answer_now
  unfolding block
  block_now u = rw le-leb

  block_later : state_for m s < (session_of m s).number → block m s q behind out ≡ behind
  unfolding block
  block_later u = rw lt-leb

  pub block_case : (P : Step → Type 0) → ((session_of m s).number ≤ state_for m s → P answer_now) → (state_for m s < (session_of m s).number → P behind)
      → P (block m s q behind out)
  block_case P now later = go (leb (session_of m s).number (state_for m s)) refl
    where
      go : (b : Bool) → leb (session_of m s).number (state_for m s) ≡ b → P (block m s q behind out)
      go true e = let u = leb-true _ _ e in rw (block_now u) (now u)
      go false e = let u = leb-false _ _ e in rw (block_later u) (later u)
