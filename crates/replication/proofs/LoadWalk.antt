-- Load's walk along the log: turn by turn, and that it finds no fault exactly where the copies are what the transactions make and each operation met its cart.
use Prim.Native.Nat.{ℕ, zero, suc, ◌+◌, ◌-◌, ◌<◌, ◌≤◌}
use mathlib.Core.Path.{◌≡◌, refl, sym, ap, ◌∙◌}
use mathlib.Core.Bool.{Bool, true, ◌&&◌}
use mathlib.Core.List.{List, ◌++◌, map}
use native.Mathlib.Omega.{arith}
use native.Mathlib.Decide.{ℕ_discrete}
use lib.Dec.{eqb}
use lib.ListN.{length, take}
use borrow.Author.Tests.{eq-eqb}
use Rattle.carts.specs.Bytes.{within, every, pairwise}
use Rattle.carts.specs.Operation.{meets_all, act_all}
use Rattle.carts.specs.Transaction.{Transaction, replay, met_from}
use Rattle.carts.proofs.TestLaws.{and_left, and_right, and_both, within_low, within_high, every_map, pairwise_eq, pairwise_refl}
use Rattle.carts.proofs.ScanLaws.{every_implied}
use Rattle.replication.specs.Memory.{copy_at, nth}
use Rattle.edit_log.specs.Log.{record_at, next_transaction, records_of, transaction_at, handed_in, transactions_from, log_records}
use Rattle.edit_log.specs.Values.{usable}
use Rattle.replication.specs.Values.{are_level, whole_from}
use Rattle.replication.specs.declared.control.Control.{Control}
use Rattle.replication.proofs.LevelLaws.{level_at_law, at_level}
use Rattle.edit_log.proofs.ListLaws.{every_first, every_last}
use Rattle.edit_log.proofs.TransactionLaws.{handed_meets_all, handed_act_all}
use Rattle.edit_log.proofs.WriteLaws.{length_record}

-- no transaction leaves a copy as it is
pub replay_none : (copy : List ℕ) (log : List Transaction) → copy ≡ replay copy (take 0 log)
unfolding replay
replay_none copy log = refl

-- a walk with transactions left: the records of the next one can act on a copy, and those of the others
module _ (log : List ℕ) (left r : ℕ) (h : 0 < left) where
  one_more : left ≡ suc (left - 1)
  one_more = omega arith

  module _ (u : every (usable log) (log_records left log r) ≡ true) where
    both : every (usable log) (records_of log r ++ log_records (left - 1) log (next_transaction log r)) ≡ true
    unfolding log_records
    both = sym (ap (λ (k : ℕ). every (usable log) (log_records k log r)) one_more) ∙ u

    pub usable_own : every (usable log) (records_of log r) ≡ true
    usable_own = every_first (usable log) (records_of log r) (log_records (left - 1) log (next_transaction log r)) both

    pub usable_rest : every (usable log) (log_records (left - 1) log (next_transaction log r)) ≡ true
    usable_rest = every_last (usable log) (records_of log r) (log_records (left - 1) log (next_transaction log r)) both

  pub whole_next : (c : Control) (library : List ℕ) (n : ℕ) (copy : List ℕ) → whole_from c library log left n r copy ≡ (meets_all copy (transaction_at log r)
      && (are_level c library (act_all copy (transaction_at log r)) (n + 1) && whole_from c library log (left - 1) (n + 1) (next_transaction log r) (act_all copy (transaction_at log r))))
  unfolding whole_from
  whole_next c library n copy = ap (λ (k : ℕ). whole_from c library log k n r copy) one_more

pub whole_end : (c : Control) (library log : List ℕ) (left n r : ℕ) (copy : List ℕ) → left ≤ 0 → whole_from c library log left n r copy ≡ pairwise eqb (copy_at library 0) copy
unfolding whole_from
whole_end c library log left n r copy h = let z : left ≡ 0 = omega arith in rw z

module _ (c : Control) (library log : List ℕ) (size : length log ≡ 40960) where
  -- what a transaction is: the operations that stand in its records, each of 80 bytes
  own_sizes : (r : ℕ) → every (within 1 512) (records_of log r) ≡ true → every (λ op. eqb (length op) 80) (transaction_at log r) ≡ true
  unfolding transaction_at
  own_sizes r h = every_map (λ op. eqb (length op) 80) (record_at log) (records_of log r)
      ∙ every_implied (within 1 512) (λ q. eqb (length (record_at log q)) 80) (records_of log r) (λ q w. eq-eqb _ 80 (length_record log size q (within_low 1 512 q w) (within_high 1 512 q w))) h

  -- what is true where the rest of the walk finds no fault: left transactions from record r on, after n of them have made the copy
  pub record Made (left n r : ℕ) (copy : List ℕ) : Type 0 where
    pub met : met_from copy (transactions_from left log r) ≡ true
    pub primary : copy_at library 0 ≡ replay copy (transactions_from left log r)
    pub replicas : (i : ℕ) → 1 ≤ i → i ≤ c.studios → n < nth c.applied i → copy_at library i ≡ replay copy (take (nth c.applied i - n) (transactions_from left log r))

  -- no studio has applied more than there are
  abbrev Known : ℕ → Type 0
  Known n = (i : ℕ) → 1 ≤ i → i ≤ c.studios → nth c.applied i ≤ n

  -- the next transaction of the walk, and the others
  module _ (left r : ℕ) (copy : List ℕ) (inside : every (within 1 512) (log_records (suc left) log r) ≡ true) where
    own_inside : every (within 1 512) (records_of log r) ≡ true
    unfolding log_records
    own_inside = every_first (within 1 512) (records_of log r) (log_records left log (next_transaction log r)) inside

    later_inside : every (within 1 512) (log_records left log (next_transaction log r)) ≡ true
    unfolding log_records
    later_inside = every_last (within 1 512) (records_of log r) (log_records left log (next_transaction log r)) inside

    abbrev next : List ℕ
    next = act_all copy (transaction_at log r)

    abbrev rest : List Transaction
    rest = transactions_from left log (next_transaction log r)

    acts_own : act_all copy (map handed_in (transaction_at log r)) ≡ next
    acts_own = handed_act_all copy (transaction_at log r) (own_sizes r own_inside)

    met_own : met_from copy (transactions_from (suc left) log r) ≡ (meets_all copy (transaction_at log r) && met_from next rest)
    unfolding met_from transactions_from
    met_own = rw (handed_meets_all copy (transaction_at log r) (own_sizes r own_inside), acts_own)

    replay_own : replay copy (transactions_from (suc left) log r) ≡ replay next rest
    unfolding replay transactions_from
    replay_own = ap (λ (z : List ℕ). replay z rest) acts_own

    take_own : (k j : ℕ) → k ≡ suc j → replay copy (take k (transactions_from (suc left) log r)) ≡ replay next (take j rest)
    unfolding replay transactions_from
    take_own k j e = rw e (ap (λ (z : List ℕ). replay z (take j rest)) acts_own)

    made_then : (n : ℕ) → meets_all copy (transaction_at log r) ≡ true → are_level c library next (n + 1) ≡ true → Made left (n + 1) (next_transaction log r) next → Made (suc left) n r copy
    made_then n meets level x = record {
      met = met_own ∙ and_both _ _ meets x.met;
      primary = x.primary ∙ sym replay_own;
      replicas = λ i l g u. replica i l g u (ℕ_discrete (nth c.applied i) (n + 1));
    }
      where
        replica : (i : ℕ) → 1 ≤ i → i ≤ c.studios → n < nth c.applied i → Dec (nth c.applied i ≡ n + 1)
            → copy_at library i ≡ replay copy (take (nth c.applied i - n) (transactions_from (suc left) log r))
        replica i l g u (yes e) = level_at_law c library next (n + 1) level i l g e ∙ replay_none next rest ∙ sym (take_own (nth c.applied i - n) 0 (omega arith))
        replica i l g u (no e) = x.replicas i l g (omega arith) ∙ sym (take_own (nth c.applied i - n) (nth c.applied i - (n + 1)) (omega arith))

    made_level : (n : ℕ) → Made (suc left) n r copy → are_level c library next (n + 1) ≡ true
    made_level n x = at_level c library next (n + 1) (λ i l g e. x.replicas i l g (omega arith) ∙ take_own (nth c.applied i - n) 0 (omega arith) ∙ sym (replay_none next rest))

    made_rest : (n : ℕ) → Made (suc left) n r copy → Made left (n + 1) (next_transaction log r) next
    made_rest n x = record {
      met = and_right (meets_all copy (transaction_at log r)) _ (sym met_own ∙ x.met);
      primary = x.primary ∙ replay_own;
      replicas = λ i l g u. x.replicas i l g (omega arith) ∙ take_own (nth c.applied i - n) (nth c.applied i - (n + 1)) (omega arith);
    }

  pub walk_made : (left n r : ℕ) (copy : List ℕ) → every (within 1 512) (log_records left log r) ≡ true → Known (n + left)
      → whole_from c library log left n r copy ≡ true → Made left n r copy
  unfolding whole_from met_from replay transactions_from
  walk_made zero n r copy w k h = record { met = refl; primary = pairwise_eq _ _ h; replicas = λ i l g u. let a = k i l g in absurd (omega arith) }
  walk_made (suc left) n r copy w k h =
      let next : List ℕ = act_all copy (transaction_at log r) in
      let level : Bool = are_level c library next (n + 1) in
      let later : Bool = whole_from c library log left (n + 1) (next_transaction log r) next in
      let t : (level && later) ≡ true = and_right (meets_all copy (transaction_at log r)) (level && later) h in
      made_then left r copy w n (and_left (meets_all copy (transaction_at log r)) (level && later) h) (and_left level later t)
      (walk_made left (n + 1) (next_transaction log r) next (later_inside left r copy w) (λ i l g. let a = k i l g in omega arith) (and_right level later t))

  pub made_walk : (left n r : ℕ) (copy : List ℕ) → every (within 1 512) (log_records left log r) ≡ true → Made left n r copy → whole_from c library log left n r copy ≡ true
  unfolding whole_from replay transactions_from
  made_walk zero n r copy w x = rw x.primary (pairwise_refl copy)
  made_walk (suc left) n r copy w x =
      and_both (meets_all copy (transaction_at log r)) _ (and_left (meets_all copy (transaction_at log r)) _ (sym (met_own left r copy w) ∙ x.met))
      (and_both _ _ (made_level left r copy w n x) (made_walk left (n + 1) (next_transaction log r) _ (later_inside left r copy w) (made_rest left r copy w n x)))
