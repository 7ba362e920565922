-- The log's transactions: one acts on a copy, record by record; all of them as they were handed in.
use Prim.Native.Nat.{ℕ, zero, suc, ◌-◌, ◌<◌, ◌≤◌}
use mathlib.Core.Path.{◌≡◌, refl, ap, ◌∙◌}
use mathlib.Core.Bool.{Bool, true, ◌&&◌}
use mathlib.Core.List.{List, [], ◌∷◌, map}
use native.Mathlib.Omega.{arith}
use borrow.Author.Tests.{eq-eqb}
use lib.Dec.{eqb}
use lib.ListN.{length, take, drop, get_or, length-map}
use Rattle.carts.specs.Bytes.{zeros, u16, within, every}
use Rattle.carts.specs.Operation.{operation_form, meets, act, meets_all, act_all}
use Rattle.carts.proofs.TestLaws.{and_left, and_right, all_at, within_low, within_high}
use Rattle.carts.proofs.PartLaws.{take_over, drop_over_after}
use Rattle.carts.proofs.ZeroLaws.{length_zeros}
use Rattle.carts.proofs.OperationLaws.{Operations, sizes_first, operations_first, act_links, meets_links}
use Rattle.edit_log.specs.Log.{record_at, next_operation, next_transaction, chain, records_of, transaction_at, handed_in, transactions_from, walk}
use Rattle.edit_log.specs.Values.{usable}
use Rattle.edit_log.proofs.ChainLaws.{chain_cons, chain_zero}
use Rattle.edit_log.proofs.LinkLaws.{length_handed, handed_form}

-- what a usable record gives
pub record Usable (log : List ℕ) (r : ℕ) : Type 0 where
  pub low : 1 ≤ r
  pub high : r ≤ 512
  pub cart_low : 1 ≤ u16 (record_at log r) 2
  pub cart_high : u16 (record_at log r) 2 ≤ 128

pub usable_of : (log : List ℕ) (r : ℕ) → usable log r ≡ true → Usable log r
unfolding usable
usable_of log r e =
    let tests : List Bool = within 1 512 r ∷ within 1 128 (u16 (record_at log r) 2) ∷ [] in
    let a = all_at 0 tests e in
    let b = all_at 1 tests e in
    record { low = within_low 1 512 r a; high = within_high 1 512 r a; cart_low = within_low 1 128 _ b; cart_high = within_high 1 128 _ b }

-- a turn of a loop along the chain: the record acts, and the others follow
module _ (log : List ℕ) (left r : ℕ) (h : 0 < left) where
  turn : (r ≡ 0 → ⊥) → chain left log r ≡ r ∷ chain (left - 1) log (next_operation log r)
  turn n = let q : left ≡ suc (left - 1) = omega arith in ap (λ (k : ℕ). chain k log r) q ∙ chain_cons (left - 1) log r (omega arith)

  module _ (n : r ≡ 0 → ⊥) (u : every (usable log) (chain left log r) ≡ true) where
    both : (usable log r && every (usable log) (chain (left - 1) log (next_operation log r))) ≡ true
    unfolding every
    both = rw (turn n) at u

    pub usable_here : Usable log r
    usable_here = usable_of log r (and_left (usable log r) (every (usable log) (chain (left - 1) log (next_operation log r))) both)

    pub usable_later : every (usable log) (chain (left - 1) log (next_operation log r)) ≡ true
    usable_later = and_right (usable log r) (every (usable log) (chain (left - 1) log (next_operation log r))) both

  pub acts : (copy : List ℕ) → (r ≡ 0 → ⊥) → act_all copy (map (record_at log) (chain left log r)) ≡ act_all (act copy (record_at log r)) (map (record_at log) (chain (left - 1) log (next_operation log r)))
  unfolding act_all
  acts copy n = rw (turn n)

  pub met_then : (copy : List ℕ) → (r ≡ 0 → ⊥) → meets_all copy (map (record_at log) (chain left log r))
      ≡ (meets copy (record_at log r) && meets_all (act copy (record_at log r)) (map (record_at log) (chain (left - 1) log (next_operation log r))))
  unfolding meets_all
  met_then copy n = rw (turn n)

-- the end of the chain, or of the turns
pub acts_ends : (log : List ℕ) (left r : ℕ) (copy : List ℕ) → r ≡ 0 → act_all copy (map (record_at log) (chain left log r)) ≡ copy
unfolding act_all
acts_ends log left r copy e = rw (e, chain_zero left log)

pub acts_stops : (log : List ℕ) (left r : ℕ) (copy : List ℕ) → left ≤ 0 → act_all copy (map (record_at log) (chain left log r)) ≡ copy
unfolding act_all chain
acts_stops log left r copy h = let e : left ≡ 0 = omega arith in rw e

pub met_ends : (log : List ℕ) (left r : ℕ) (copy : List ℕ) → r ≡ 0 → meets_all copy (map (record_at log) (chain left log r)) ≡ true
unfolding meets_all
met_ends log left r copy e = rw (e, chain_zero left log)

pub met_stops : (log : List ℕ) (left r : ℕ) (copy : List ℕ) → left ≤ 0 → meets_all copy (map (record_at log) (chain left log r)) ≡ true
unfolding meets_all chain
met_stops log left r copy h = let e : left ≡ 0 = omega arith in rw e

-- the transactions read off the log: how many
pub length_transactions : (n : ℕ) (log : List ℕ) (r : ℕ) → length (transactions_from n log r) ≡ n
unfolding transactions_from
length_transactions zero log r = refl
length_transactions (suc n) log r = ap suc (length_transactions n log _)

-- transaction k is the one that the walk comes to
pub transactions_at : (n : ℕ) (log : List ℕ) (r k : ℕ) → k < n → get_or (transactions_from n log r) k [] ≡ map handed_in (transaction_at log (walk k log r))
unfolding transactions_from walk
transactions_at zero log r k h = let z : ⊥ = omega arith in absurd z
transactions_at (suc n) log r zero h = refl
transactions_at (suc n) log r (suc k) h = transactions_at n log (next_transaction log r) k (omega arith)

-- a transaction as it was handed in has an operation for each record
pub length_handed_in : (log : List ℕ) (r : ℕ) → length (map handed_in (transaction_at log r)) ≡ length (records_of log r)
unfolding transaction_at
length_handed_in log r = length-map (map (record_at log) (records_of log r)) handed_in ∙ length-map (records_of log r) (record_at log)

-- an operation's links are not read when it acts
module _ (copy op : List ℕ) (h : length op ≡ 80) where
  front_same : take 12 (handed_in op) ≡ take 12 op
  unfolding handed_in
  front_same = take_over op 12 4 (zeros 4) 12 (omega arith) (omega arith)

  back_same : drop 16 (handed_in op) ≡ drop 16 op
  unfolding handed_in
  back_same = drop_over_after op 12 4 (zeros 4) 16 (omega arith) (length_zeros 4) (omega arith)

  handed_act : act copy (handed_in op) ≡ act copy op
  handed_act = act_links (handed_in op) op front_same back_same copy

  handed_meets : meets copy (handed_in op) ≡ meets copy op
  handed_meets = meets_links (handed_in op) op front_same back_same copy

pub handed_act_all : (copy : List ℕ) (ops : List (List ℕ)) → every (λ op. eqb (length op) 80) ops ≡ true → act_all copy (map handed_in ops) ≡ act_all copy ops
unfolding act_all
handed_act_all copy [] h = refl
handed_act_all copy (op ∷ ops) h =
    let (size, sizes) = sizes_first op ops h in
    ap (λ (z : List ℕ). act_all z (map handed_in ops)) (handed_act copy op size) ∙ handed_act_all (act copy op) ops sizes

pub handed_meets_all : (copy : List ℕ) (ops : List (List ℕ)) → every (λ op. eqb (length op) 80) ops ≡ true → meets_all copy (map handed_in ops) ≡ meets_all copy ops
unfolding meets_all
handed_meets_all copy [] h = refl
handed_meets_all copy (op ∷ ops) h =
    let (size, sizes) = sizes_first op ops h in
    rw (handed_meets copy op size, handed_act copy op size, handed_meets_all (act copy op) ops sizes)

-- operations of their fields, as they were handed in, are of their form
pub handed_operations : (ops : List (List ℕ)) → Operations ops → (every (λ op. eqb (length op) 80) (map handed_in ops) ≡ true) × (every operation_form (map handed_in ops) ≡ true)
unfolding every
handed_operations [] o = (refl, refl)
handed_operations (op ∷ ops) o =
    let (w, later) = operations_first op ops o in
    let (sizes, forms) = handed_operations ops later in
    (rw (eq-eqb (length (handed_in op)) 80 (length_handed op w.size)) sizes, rw (handed_form op w.size w.fields) forms)
