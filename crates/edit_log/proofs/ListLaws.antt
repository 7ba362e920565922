-- Chains as lists of records: each linked to the next along bytes 12–13, wherever they stand.
use Prim.Native.Nat.{ℕ, zero, suc, ◌-◌, ◌<◌, ◌≤◌}
use mathlib.Core.Path.{◌≡◌, refl, sym, ap, ◌∙◌}
use mathlib.Core.Bool.{Bool, true, false, ◌&&◌, and_assoc}
use mathlib.Core.List.{List, [], ◌∷◌, ◌++◌}
use native.Mathlib.Omega.{arith}
use lib.ListN.{length, take, drop, length-drop}
use lib.Dec.{eqb}
use borrow.Author.Tests.{eqb-true, eqb-false}
use Rattle.carts.specs.Bytes.{within, every}
use Rattle.carts.proofs.TestLaws.{and_left, and_right, within_low}
use Rattle.edit_log.specs.Log.{next_operation, chain, front, back}
use Rattle.edit_log.specs.Chains.{count}
use Rattle.edit_log.proofs.BoolLaws.{and_of}
use Rattle.edit_log.proofs.ChainLaws.{chain_cons, chain_zero}
use Rattle.edit_log.proofs.OnceLaws.{count_here}

-- each record is linked to the next, the last to none
unfoldable pub Linked : List ℕ → List ℕ → Type 0
Linked log [] = Unit {0}
Linked log (r ∷ rs) = (next_operation log r ≡ front rs) × Linked log rs

-- such a list is the chain from its first record on
pub linked_chain : (rs : List ℕ) (room : ℕ) (log : List ℕ) → every (within 1 512) rs ≡ true → length rs ≤ room → Linked log rs → chain room log (front rs) ≡ rs
unfolding Linked front every
linked_chain [] room log i l g = chain_zero room log
linked_chain (r ∷ rs) zero log i l g = let z : ⊥ = omega arith in absurd z
linked_chain (r ∷ rs) (suc room) log i l g =
    chain_cons room log r (within_low 1 512 r (and_left (within 1 512 r) (every (within 1 512) rs) i))
    ∙ ap (λ (z : ℕ). r ∷ chain room log z) g.0
    ∙ ap (λ (z : List ℕ). r ∷ z) (linked_chain rs room log (and_right (within 1 512 r) (every (within 1 512) rs) i) (omega arith) g.1)

-- and a chain that ends is such a list
pub front_chain : (room : ℕ) (log : List ℕ) (r : ℕ) → 1 ≤ room → front (chain room log r) ≡ r
unfolding chain front
front_chain zero log r h = let z : ⊥ = omega arith in absurd z
front_chain (suc n) log r h = go (eqb r 0) refl
  where
    go : (b : Bool) → eqb r 0 ≡ b → front (chain (suc n) log r) ≡ r
    go true e = rw e (sym (eqb-true r 0 e))
    go false e = rw e

pub chain_linked : (room : ℕ) (log : List ℕ) (r : ℕ) → length (chain room log r) < room → Linked log (chain room log r)
unfolding Linked
chain_linked zero log r l = let z : ⊥ = omega arith in absurd z
chain_linked (suc room) log r l = go (chain_linked room log (next_operation log r)) (eqb r 0) refl
  where
    rest : List ℕ
    rest = chain room log (next_operation log r)

    go : (length rest < room → Linked log rest) → (b : Bool) → eqb r 0 ≡ b → Linked log (chain (suc room) log r)
    go rec true e = let c : chain (suc room) log r ≡ [] = ap (chain (suc room) log) (eqb-true r 0 e) ∙ chain_zero (suc room) log in rw c tt
    go rec false e =
        let n = eqb-false r 0 e in
        let c : chain (suc room) log r ≡ r ∷ rest = chain_cons room log r (omega arith) in
        let k : length (r ∷ rest) < suc room = rw c at l in
        let m : length rest < room = omega arith in
        rw c (sym (front_chain room log (next_operation log r) (omega arith)), rec m)

-- the first k records of a chain
chain_none : (log : List ℕ) (r : ℕ) → chain 0 log r ≡ []
unfolding chain
chain_none log r = refl

pub take_chain : (k room : ℕ) (log : List ℕ) (r : ℕ) → k ≤ room → take k (chain room log r) ≡ chain k log r
take_chain zero room log r h = sym (chain_none log r)
take_chain (suc k) zero log r h = let z : ⊥ = omega arith in absurd z
take_chain (suc k) (suc room) log r h = go (take_chain k room log (next_operation log r) (omega arith)) (eqb r 0) refl
  where
    go : take k (chain room log (next_operation log r)) ≡ chain k log (next_operation log r) → (b : Bool) → eqb r 0 ≡ b → take (suc k) (chain (suc room) log r) ≡ chain (suc k) log r
    go rec true e = rw (eqb-true r 0 e, chain_zero (suc room) log, chain_zero (suc k) log)
    go rec false e = let n = eqb-false r 0 e in rw (chain_cons room log r (omega arith), chain_cons k log r (omega arith), rec)

-- a log with the same links there
pub count_more : (q x : ℕ) (xs : List ℕ) → count q xs ≤ count q (x ∷ xs)
unfolding count
count_more q x xs = omega arith

pub linked_kept : (log log' rs : List ℕ) → ((q : ℕ) → 1 ≤ count q rs → next_operation log' q ≡ next_operation log q) → Linked log rs → Linked log' rs
unfolding Linked
linked_kept log log' [] f g = tt
linked_kept log log' (r ∷ rs) f g =
    let c = count_here r rs in
    (f r (omega arith) ∙ g.0, linked_kept log log' rs (λ q l. let m = count_more q r rs in f q (omega arith)) g.1)

pub linked_drop : (n : ℕ) (log rs : List ℕ) → Linked log rs → Linked log (drop n rs)
unfolding Linked
linked_drop zero log rs g = g
linked_drop (suc n) log [] g = g
linked_drop (suc n) log (r ∷ rs) g = linked_drop n log rs g.1

-- a test of each of them, in a log where each passes
pub every_kept : (p p' : ℕ → Bool) (rs : List ℕ) → ((q : ℕ) → 1 ≤ count q rs → p q ≡ true → p' q ≡ true) → every p rs ≡ true → every p' rs ≡ true
unfolding every
every_kept p p' [] f h = refl
every_kept p p' (r ∷ rs) f h =
    let c = count_here r rs in
    and_of _ _ (f r (omega arith) (and_left (p r) (every p rs) h)) (every_kept p p' rs (λ q l. let m = count_more q r rs in f q (omega arith)) (and_right (p r) (every p rs) h))

pub every_append : (p : ℕ → Bool) (xs ys : List ℕ) → every p (xs ++ ys) ≡ (every p xs && every p ys)
unfolding every
every_append p [] ys = refl
every_append p (x ∷ xs) ys = rw (every_append p xs ys) (sym (and_assoc (p x) (every p xs) (every p ys)))

-- two lists joined: the first ones, the last ones
module _ (p : ℕ → Bool) (xs ys : List ℕ) (h : every p (xs ++ ys) ≡ true) where
  pub every_first : every p xs ≡ true
  every_first = and_left (every p xs) (every p ys) (sym (every_append p xs ys) ∙ h)

  pub every_last : every p ys ≡ true
  every_last = and_right (every p xs) (every p ys) (sym (every_append p xs ys) ∙ h)

-- the front of two lists joined, the last of a list, and of what is left of it
pub front_append : (xs ys : List ℕ) → 1 ≤ length xs → front (xs ++ ys) ≡ front xs
unfolding front
front_append [] ys h = let z : ⊥ = omega arith in absurd z
front_append (x ∷ xs) ys h = refl

pub back_append : (d : ℕ) (xs ys : List ℕ) → back d (xs ++ ys) ≡ back (back d xs) ys
unfolding back
back_append d [] ys = refl
back_append d (x ∷ xs) ys = back_append x xs ys

pub back_some : (d e : ℕ) (xs : List ℕ) → 1 ≤ length xs → back d xs ≡ back e xs
unfolding back
back_some d e [] h = let z : ⊥ = omega arith in absurd z
back_some d e (x ∷ xs) h = refl

pub back_drop : (d k : ℕ) (xs : List ℕ) → k < length xs → back d (drop k xs) ≡ back d xs
unfolding back
back_drop d zero xs h = refl
back_drop d (suc k) [] h = let z : ⊥ = omega arith in absurd z
back_drop d (suc k) (x ∷ xs) h =
    let l : length (drop k xs) ≡ length xs - k = length-drop k xs in
    back_some d x (drop k xs) (omega arith) ∙ back_drop x k xs (omega arith)
