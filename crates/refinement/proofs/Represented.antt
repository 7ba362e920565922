-- The machine that bytes stand for, with the fields that control gives it; its log, the retired transactions and those in the log's chain.
use mathlib.Core.Path.{◌≡◌, sym, ap, ◌∙◌, subst}
use mathlib.Core.List.{List, [], ◌∷◌, ◌++◌}
use Prim.Native.Nat.{ℕ, zero, suc, ◌+◌, ◌-◌, ◌≤◌, ◌<◌}
use native.Mathlib.Omega.{arith}
use lib.ListN.{length, drop, get_or, length-append}
use lib.Seq.{drop_at}
use Rattle.carts.specs.Transaction.{Transaction}
use Rattle.replication.specs.Memory.{Memory}
use Rattle.replication.specs.Log.{log_count, logged}
use Rattle.replication.specs.declared.control.Control.{Control}
use Rattle.replication.proofs.Formed.{retired_known}
use Rattle.edit_log.proofs.TransactionLaws.{length_transactions}
use Rattle.machine.specs.Machine.{Session, Machine, machine, commits}
use Rattle.refinement.specs.Represents.{Represents}
use Rattle.refinement.proofs.Arrays.{formed}

abbrev pub machine_of : Control → List Transaction → List Session → Machine
machine_of c log sessions = machine c.studios log c.retired c.sent c.applied sessions

-- it is enough to show a fact of that machine
pub by_machine : (c : Control) (m : Memory) (P : Machine → Type 0)
    → ((log : List Transaction) (sessions : List Session) → Represents c m (machine_of c log sessions) → P (machine_of c log sessions))
    → (M : Machine) → Represents c m M → P M
by_machine c m P f M h = subst P same (f M.log M.sessions (rw same h))
  where
    same : machine_of c M.log M.sessions ≡ M
    same = rw (← h.studios, ← h.retired, ← h.sent, ← h.applied)

-- an element after the first ones
pub get_d_after : (xs ys : List Transaction) (k n : ℕ) → length xs ≡ n → n ≤ k → get_or (xs ++ ys) k [] ≡ get_or ys (k - n) []
get_d_after [] ys k n e l = let z : k ≡ k - n = omega arith in ap (λ (j : ℕ). get_or ys j []) z
get_d_after (x ∷ xs) ys zero n e l = absurd (omega arith)
get_d_after (x ∷ xs) ys (suc k) zero e l = absurd (omega arith)
get_d_after (x ∷ xs) ys (suc k) (suc n) e l = let z : k - n ≡ suc k - suc n = omega arith in get_d_after xs ys k n (omega arith) (omega arith) ∙ ap (λ (j : ℕ). get_or ys j []) z

module _ (c : Control) (m : Memory) (M : Machine) (h : Represents c m M) where
  pub log_length : commits M ≡ c.commits
  unfolding log_count
  log_length =
      let n = length-append h.old (logged c m.log) in
      let k = length_transactions (c.commits - c.retired) m.log c.oldest in
      let r = retired_known c m (formed c m h.form) in
      ap length h.log ∙ (let e : length (h.old ++ logged c m.log) ≡ c.commits = omega (arith, h.many) in e)

  -- those that are not retired are in the chain
  pub kept_log : drop c.retired M.log ≡ logged c m.log
  kept_log = ap (drop c.retired) h.log ∙ drop_at h.old (logged c m.log) c.retired h.many

  -- transaction k + 1
  pub log_at : (k : ℕ) → c.retired ≤ k → get_or M.log k [] ≡ get_or (logged c m.log) (k - c.retired) []
  log_at k l = ap (λ (z : List Transaction). get_or z k []) h.log ∙ get_d_after h.old (logged c m.log) k c.retired h.many l
