-- Laws of a transaction's records: the loops along the chain that count and write its operations.
use mathlib.Core.Path.{◌≡◌, refl, sym, ap, ◌∙◌}
use mathlib.Core.Bool.{true}
use mathlib.Core.List.{List, [], ◌∷◌, ◌++◌, map}
use Prim.Native.Nat.{ℕ, zero, suc, ◌+◌, ◌-◌, ◌*◌, ◌/◌, ◌<◌, ◌≤◌}
use native.Mathlib.Omega.{arith}
use native.Mathlib.Nat.{sub-zero}
use lib.ListN.{length, take, drop, take-append-drop}
use Rattle.carts.specs.Bytes.{zeros, over, every}
use Rattle.carts.proofs.PartLaws.{length_part, over_whole}
use Rattle.edit_log.specs.Log.{record_at, next_operation, chain, handed_in}
use Rattle.replication.specs.Message.{joined}
use Rattle.edit_log.specs.Values.{usable}
use Rattle.edit_log.proofs.ChainLaws.{chain_cons, chain_zero}
use Rattle.edit_log.proofs.TransactionLaws.{Usable, usable_here, usable_later}
use Rattle.replication.proofs.OutputLaws.{part_more}

-- a record that is copied, and its links cleared
pub put_handed : (stored copied links : List ℕ) → length stored ≡ 80 → copied ≡ stored → links ≡ zeros (length (take 4 (drop 12 copied))) → over copied 12 4 links ≡ handed_in stored
unfolding handed_in
put_handed stored copied links l e f = let four = length_part stored 12 4 (omega arith) in rw (f, e, four)

-- the records left of a transaction, of which i have been passed, and their operations
abbrev pub Left : List ℕ → ℕ → ℕ → List ℕ
Left log i r = chain (9 - i) log r

abbrev pub Texts : List ℕ → ℕ → ℕ → List ℕ
Texts log i r = joined (map handed_in (map (record_at log) (Left log i r)))

none_left : (log : List ℕ) (i : ℕ) → length (Left log i 0) ≡ 0
none_left log i = ap length (chain_zero (9 - i) log)

-- the loop that counts them: its two ends
pub counted : (log : List ℕ) (i r : ℕ) {whole : ℕ} → r ≡ 0 → whole ≡ i + length (Left log i r) → i ≡ whole
counted log i r e inv = let z = none_left log i in let k = rw e at inv in omega arith

pub counted_all : (log : List ℕ) (i r : ℕ) {whole : ℕ} → 9 ≤ i → whole ≡ i + length (Left log i r) → i ≡ whole
unfolding chain
counted_all log i r h inv = let z : 9 - i ≡ 0 = omega arith in let k = rw z at inv in omega arith

-- where some are left, record r is the first of them
more_turns : (log : List ℕ) (i r k : ℕ) → 9 - i ≡ k → 1 ≤ length (chain k log r) → i < 9
unfolding chain
more_turns log i r zero e h = let z : ⊥ = omega arith in absurd z
more_turns log i r (suc k) e h = omega arith

pub some_left : (log : List ℕ) (i r : ℕ) → 1 ≤ length (Left log i r) → (i < 9) × (r ≡ 0 → ⊥)
some_left log i r h = (more_turns log i r (9 - i) refl h, λ e. let z = none_left log i in let g : 1 ≤ length (Left log i 0) = rw e at h in omega arith)

module _ (log : List ℕ) (i r : ℕ) (h : i < 9) (n : r ≡ 0 → ⊥) where
  next_left : Left log i r ≡ r ∷ Left log (i + 1) (next_operation log r)
  next_left = let q : 9 - i ≡ suc (9 - (i + 1)) = omega arith in ap (λ (k : ℕ). chain k log r) q ∙ chain_cons (9 - (i + 1)) log r (omega arith)

  pub next_length : {whole : ℕ} → whole ≡ i + length (Left log i r) → whole ≡ i + 1 + length (Left log (i + 1) (next_operation log r))
  next_length inv = let e = ap length next_left in omega arith

  pub less_left : (count : ℕ) → length (Left log i r) ≡ count - i → length (Left log (i + 1) (next_operation log r)) ≡ count - (i + 1)
  less_left count l = let e = ap length next_left in omega arith

  next_texts : Texts log i r ≡ handed_in (record_at log r) ++ Texts log (i + 1) (next_operation log r)
  unfolding joined
  next_texts = ap (λ (rs : List ℕ). joined (map handed_in (map (record_at log) rs))) next_left

  -- they can be read
  module _ (u : every (usable log) (Left log i r) ≡ true) where
    pub here : Usable log r
    here = usable_here log (9 - i) r (omega arith) n u

    pub later : every (usable log) (Left log (i + 1) (next_operation log r)) ≡ true
    later = let q : 9 - i - 1 ≡ 9 - (i + 1) = omega arith in rw q at (usable_later log (9 - i) r (omega arith) n u)

nothing_left : (rs : List ℕ) → length rs ≡ 0 → rs ≡ []
nothing_left [] e = refl
nothing_left (r ∷ rs) e = let z : ⊥ = omega arith in absurd z

-- so many parts of 80 bytes
pub all_left : (n k : ℕ) → n ≡ 80 * k → k ≡ n / 80 - 0
all_left n k e = omega arith

pub whole_parts : (n k : ℕ) → n ≡ 80 * k → n ≤ 80 * (n / 80)
whole_parts n k e = omega arith

pub some_of : (i n k : ℕ) → i < n → k ≡ n - i → 1 ≤ k
some_of i n k h e = omega arith

-- the loop that writes the operations of n records: its start, a turn, its end
pub put_start : (places texts : List ℕ) (n : ℕ) → length places ≤ 80 * n → texts ≡ over places (80 * 0) (80 * (n - 0)) texts
put_start places texts n h = rw (sub-zero n) (sym (over_whole places texts (80 * n) h))

module _ (log : List ℕ) (n i r : ℕ) (places : List ℕ) where
  pub put_more : (place : List ℕ) {whole : List ℕ} → i < 9 → (r ≡ 0 → ⊥) → i < n → 80 * n ≤ length places → length place ≡ 80 → place ≡ handed_in (record_at log r)
      → whole ≡ over places (80 * i) (80 * (n - i)) (Texts log i r)
      → whole ≡ over (over places (80 * i) (80 * i + 80 - 80 * i) place) (80 * (i + 1)) (80 * (n - (i + 1))) (Texts log (i + 1) (next_operation log r))
  put_more place a b h l k e inv =
      let rest = Texts log (i + 1) (next_operation log r) in
      inv ∙ ap (over places (80 * i) (80 * (n - i))) (next_texts log i r a b ∙ ap (λ (t : List ℕ). t ++ rest) (sym e)) ∙ part_more places place rest n i h l k

  pub put_end : {whole : List ℕ} → n ≤ i → length (Left log i r) ≡ n - i → whole ≡ over places (80 * i) (80 * (n - i)) (Texts log i r) → places ≡ whole
  unfolding joined
  put_end h l inv =
      let z : n - i ≡ 0 = omega arith in
      let none = nothing_left (Left log i r) (l ∙ z) in
      sym ((rw (z, none) at inv) ∙ take-append-drop (80 * i) places)
