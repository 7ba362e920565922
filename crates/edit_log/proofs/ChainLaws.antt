-- A chain along bytes 12–13, record by record.
use Prim.Native.Nat.{ℕ, zero, suc, ◌≤◌}
use mathlib.Core.Path.{◌≡◌, refl}
use mathlib.Core.List.{List, [], ◌∷◌}
use native.Mathlib.Omega.{arith}
use borrow.Author.Tests.{ne_eqb}
use Rattle.edit_log.specs.Log.{next_operation, chain}

-- the chain of a record that is not 0 begins with it
pub chain_cons : (k : ℕ) (log : List ℕ) (r : ℕ) → 1 ≤ r → chain (suc k) log r ≡ r ∷ chain k log (next_operation log r)
unfolding chain
chain_cons k log r h = let n : r ≡ 0 → ⊥ = λ e. omega arith in rw (ne_eqb r 0 n)

pub chain_zero : (k : ℕ) (log : List ℕ) → chain k log 0 ≡ []
unfolding chain
chain_zero zero log = refl
chain_zero (suc k) log = refl
