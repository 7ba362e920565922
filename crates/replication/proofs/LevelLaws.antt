-- Load compares a studio's copy when as many transactions have acted as the studio has applied.
use Prim.Native.Nat.{ℕ, ◌+◌, ◌-◌, ◌≤◌}
use mathlib.Core.Path.{◌≡◌, ap, ◌∙◌}
use mathlib.Core.Bool.{Bool, true}
use mathlib.Core.List.{List}
use native.Mathlib.Omega.{arith}
use native.Mathlib.Decide.{ℕ_discrete}
use lib.Dec.{eqb}
use borrow.Author.Tests.{eq-eqb, ne_eqb}
use Rattle.carts.specs.Bytes.{every, pairwise}
use Rattle.carts.proofs.TestLaws.{pairwise_eq, pairwise_refl}
use Rattle.replication.specs.Memory.{copy_at, nth}
use Rattle.edit_log.specs.Log.{up_from}
use Rattle.replication.specs.Values.{is_level, are_level}
use Rattle.replication.specs.declared.control.Control.{Control}
use Rattle.edit_log.proofs.OnceLaws.{up_from_every, every_up_from}

-- a studio: it has applied another number, or its copy is compared
module _ (library copy : List ℕ) (n applied i : ℕ) where
  pub level_other : (applied ≡ n → ⊥) → true ≡ is_level library copy n applied i
  unfolding is_level
  level_other ne = rw (ne_eqb applied n ne)

  pub level_here : applied ≡ n → (same : Bool) (x : List ℕ) → same ≡ pairwise eqb x copy → x ≡ copy_at library i → same ≡ is_level library copy n applied i
  unfolding is_level
  level_here e same x q l = rw (eq-eqb applied n e) (q ∙ ap (λ (z : List ℕ). pairwise eqb z copy) l)

-- all of them
abbrev pub level_at : Control → List ℕ → List ℕ → ℕ → ℕ → Bool
level_at c library copy n i = is_level library copy n (nth c.applied i) i

pub level_at_of : (c : Control) (library copy : List ℕ) (n i applied : ℕ) (level : Bool) → level ≡ is_level library copy n applied i → applied ≡ nth c.applied i → level ≡ level_at c library copy n i
level_at_of c library copy n i applied level e a = e ∙ ap (λ (k : ℕ). is_level library copy n k i) a

pub level_studios : (c : Control) (library copy : List ℕ) (n : ℕ) → are_level c library copy n ≡ every (level_at c library copy n) (up_from (0 + 1) (c.studios - 0))
unfolding are_level
level_studios c library copy n = let z : c.studios - 0 ≡ c.studios = omega arith in rw z

-- studio i has this copy, where it has applied n transactions
pub level_at_law : (c : Control) (library copy : List ℕ) (n : ℕ) → are_level c library copy n ≡ true → (i : ℕ) → 1 ≤ i → i ≤ c.studios → nth c.applied i ≡ n → copy_at library i ≡ copy
unfolding are_level is_level
level_at_law c library copy n h i l g e = pairwise_eq _ _ (rw (eq-eqb _ _ e) at (every_up_from (level_at c library copy n) 1 c.studios h i l (omega arith)))

pub at_level : (c : Control) (library copy : List ℕ) (n : ℕ) → ((i : ℕ) → 1 ≤ i → i ≤ c.studios → nth c.applied i ≡ n → copy_at library i ≡ copy) → are_level c library copy n ≡ true
unfolding are_level is_level
at_level c library copy n h = up_from_every (level_at c library copy n) 1 c.studios (λ i l g. go i l (omega arith) (ℕ_discrete (nth c.applied i) n))
  where
    go : (i : ℕ) → 1 ≤ i → i ≤ c.studios → Dec (nth c.applied i ≡ n) → level_at c library copy n i ≡ true
    go i l g (yes e) = rw (eq-eqb _ _ e, h i l g e) (pairwise_refl copy)
    go i l g (no e) = rw (ne_eqb _ _ e)
