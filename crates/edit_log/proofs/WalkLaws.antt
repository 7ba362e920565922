-- Laws of the walk: one transaction at a time, and the record it comes to.
use mathlib.Core.Path.{◌≡◌, refl, sym, ap, ◌∙◌}
use mathlib.Core.Bool.{true, ◌&&◌}
use mathlib.Core.List.{List}
use Prim.Native.Nat.{ℕ, zero, suc, ◌-◌, ◌≤◌}
use native.Mathlib.Omega.{arith}
use Rattle.carts.specs.Bytes.{within}
use Rattle.carts.proofs.TestLaws.{and_left, and_right, within_low, within_high}
use Rattle.edit_log.specs.Log.{next_transaction, walk}
use Rattle.edit_log.specs.Values.{links_of, walkable}
use Rattle.edit_log.specs.declared.record.Record.{Record}

pub some : (n : ℕ) → (n ≡ 0 → ⊥) → 1 ≤ n
some n h = omega arith

pub walk_none : (n : ℕ) (log : List ℕ) (r : ℕ) → n ≡ 0 → r ≡ walk n log r
unfolding walk
walk_none n log r e = rw e

-- a walk that is not at its end, by the links x that it reads
module _ (n : ℕ) (log : List ℕ) (r : ℕ) (h : n ≡ 0 → ⊥) where
  pub walk_on : (x : Record) → x ≡ links_of log r → walk (n - 1) log x.next_transaction ≡ walk n log r
  unfolding walk
  walk_on x e = let q : n ≡ suc (n - 1) = omega arith in rw e (sym (ap (λ (k : ℕ). walk k log r) q))

  module _ (w : walkable n log r ≡ true) where
    both : (within 1 512 r && walkable (n - 1) log (next_transaction log r)) ≡ true
    unfolding walkable
    both = let q : n ≡ suc (n - 1) = omega arith in sym (ap (λ (k : ℕ). walkable k log r) q) ∙ w

    pub walk_here : (1 ≤ r) × (r ≤ 512)
    walk_here =
        let i : within 1 512 r ≡ true = and_left (within 1 512 r) (walkable (n - 1) log (next_transaction log r)) both in
        (within_low 1 512 r i, within_high 1 512 r i)

    pub walk_later : (x : Record) → x ≡ links_of log r → walkable (n - 1) log x.next_transaction ≡ true
    walk_later x e = rw e (and_right (within 1 512 r) (walkable (n - 1) log (next_transaction log r)) both)

-- the last of n transactions: the walk to it, and its record
walkable_last : (n : ℕ) (log : List ℕ) (r : ℕ) → walkable (suc n) log r ≡ true → (walkable n log r ≡ true) × ((1 ≤ walk n log r) × (walk n log r ≤ 512))
unfolding walkable walk
walkable_last zero log r w = let i = and_left (within 1 512 r) true w in (refl, (within_low 1 512 r i, within_high 1 512 r i))
walkable_last (suc n) log r w =
    let i = and_left (within 1 512 r) (walkable (suc n) log (next_transaction log r)) w in
    let l = walkable_last n log (next_transaction log r) (and_right (within 1 512 r) (walkable (suc n) log (next_transaction log r)) w) in
    (rw (i, l.0), l.1)

pub last_walkable : (n : ℕ) (log : List ℕ) (r : ℕ) → (n ≡ 0 → ⊥) → walkable n log r ≡ true → (walkable (n - 1) log r ≡ true) × ((1 ≤ walk (n - 1) log r) × (walk (n - 1) log r ≤ 512))
last_walkable n log r h w = let q : n ≡ suc (n - 1) = omega arith in walkable_last (n - 1) log r (sym (ap (λ (k : ℕ). walkable k log r) q) ∙ w)
