-- Laws of control: a studio's counts, and the two chains after a commit and a retire.
use Prim.Native.Nat.{ℕ, ◌+◌, ◌-◌, ◌<◌, ◌≤◌}
use mathlib.Core.Path.{◌≡◌}
use mathlib.Core.Bool.{false, cond, ◌&&◌, and-true, and_assoc}
use native.Mathlib.Omega.{arith}
use lib.Dec.{eqb, leb}
use borrow.Author.Tests.{le-leb, lt-leb, eq-eqb, ne_eqb}
use Rattle.carts.specs.Bytes.{all}
use Rattle.replication.specs.Memory.{nth}
use Rattle.replication.specs.Log.{log_count}
use Rattle.replication.specs.Layout.{counts_form}
use Rattle.replication.specs.Calls.{with_log, committed}
use Rattle.replication.specs.declared.control.Control.{Control}

-- the counts of studio i, by what was read of them
module _ (c : Control) (i sent applied : ℕ) (s : sent ≡ nth c.sent i) (a : applied ≡ nth c.applied i) where
  pub counts_above : c.studios < i → (eqb sent 0 && eqb applied 0) ≡ counts_form c i
  unfolding counts_form all
  counts_above h = rw (← s, ← a, lt-leb i c.studios h, and-true)

  pub counts_fewer : i ≤ c.studios → sent < applied → false ≡ counts_form c i
  unfolding counts_form all
  counts_fewer h k = rw (← s, ← a, le-leb i c.studios h, lt-leb applied sent k)

  pub counts_are : i ≤ c.studios → applied ≤ sent → ((leb sent c.commits && leb (sent - applied) 32) && leb c.retired applied) ≡ counts_form c i
  unfolding counts_form all
  counts_are h k = rw (← s, ← a, le-leb i c.studios h, le-leb applied sent k, and-true) (and_assoc (leb sent c.commits) (leb (sent - applied) 32) (leb c.retired applied))

-- the oldest transaction after a commit
pub oldest_none : (c : Control) → c.commits ≡ c.retired → c.free_first ≡ cond (eqb (log_count c) 0) c.free_first c.oldest
unfolding log_count
oldest_none c e = let z : c.commits - c.retired ≡ 0 = omega arith in rw (eq-eqb _ 0 z)

pub oldest_some : (c : Control) → c.retired ≤ c.commits → (c.commits ≡ c.retired → ⊥) → c.oldest ≡ cond (eqb (log_count c) 0) c.free_first c.oldest
unfolding log_count
oldest_some c l n = let z : c.commits - c.retired ≡ 0 → ⊥ = λ e. omega arith in rw (ne_eqb _ 0 z)

-- control after a commit, by the first record that is still free; `oldest` is the oldest transaction then
module _ (c : Control) (n next oldest : ℕ) (q : oldest ≡ cond (eqb (log_count c) 0) c.free_first c.oldest) where
  pub none_free : next ≡ 0 → with_log c (c.used + n) (c.commits + 1) c.retired oldest next 0 ≡ committed c n next
  unfolding committed
  none_free e = rw (q, eq-eqb next 0 e)

  pub some_free : (next ≡ 0 → ⊥) → with_log c (c.used + n) (c.commits + 1) c.retired oldest next c.free_last ≡ committed c n next
  unfolding committed
  some_free e = rw (q, ne_eqb next 0 e)

-- the first free record after a retire
module _ (c : Control) (used retired next last : ℕ) where
  abbrev Left : ℕ → Control
  Left first = with_log c used c.commits retired next first last

  pub first_none : c.free_first ≡ 0 → Left c.oldest ≡ Left (cond (eqb c.free_first 0) c.oldest c.free_first)
  first_none e = rw (eq-eqb _ 0 e)

  pub first_some : (c.free_first ≡ 0 → ⊥) → Left c.free_first ≡ Left (cond (eqb c.free_first 0) c.oldest c.free_first)
  first_some e = rw (ne_eqb _ 0 e)
