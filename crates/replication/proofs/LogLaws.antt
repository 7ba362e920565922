-- The log of a system of the layout, by control: its transactions, and the log after a commit and after a retire.
use Prim.Native.Nat.{ℕ, suc, ◌+◌, ◌-◌, ◌≤◌, ◌<◌}
use mathlib.Core.Path.{◌≡◌, refl, sym, ap, ◌∙◌}
use mathlib.Core.Bool.{true}
use mathlib.Core.List.{List, [], ◌∷◌, ◌++◌, map}
use native.Mathlib.Omega.{arith}
use lib.ListN.{length}
use Rattle.carts.specs.Bytes.{within, every}
use Rattle.carts.specs.Transaction.{Transaction}
use Rattle.carts.proofs.OperationLaws.{Operations}
use Rattle.edit_log.specs.Log.{records_of, transaction_at, handed_in, transactions_from, log_records, next_transaction, walk, follow}
use Rattle.edit_log.specs.Chains.{chains_form}
use Rattle.edit_log.specs.Writes.{appended, released}
use Rattle.edit_log.specs.Values.{usable, walkable}
use Rattle.edit_log.proofs.ReachLaws as Reach
use Rattle.edit_log.proofs.AppendLaws.{append_texts}
use Rattle.edit_log.proofs.RetireLaws.{retire_kept, retire_texts}
use Rattle.edit_log.proofs.CommitLaws.{commit_kept}
use Rattle.edit_log.proofs.WriteLaws.{Givens}
use Rattle.edit_log.proofs.SizeLaws.{length_appended, length_released}
use Rattle.replication.specs.Memory.{Memory}
use Rattle.replication.specs.Log.{log_count, logged}
use Rattle.replication.specs.Calls.{committed, retired_control}
use Rattle.replication.specs.declared.control.Control.{Control}
use Rattle.replication.proofs.Formed.{LogFormed, Formed, retired_known}

module _ (c : Control) (m : Memory) (f : Formed c m) where
  abbrev n : ℕ
  n = log_count c

  pub used_few : c.used ≤ 512
  used_few = Reach.used_few n m.log c.used c.oldest c.free_first c.free_last f.log.size f.log.chains

  pub log_used : length (log_records n m.log c.oldest) ≡ c.used
  log_used = Reach.log_used n m.log c.used c.oldest c.free_first c.free_last f.log.size f.log.chains

  -- each record of the chain can act on a copy, and the walk comes to each transaction
  pub log_usable : every (usable m.log) (log_records n m.log c.oldest) ≡ true
  log_usable = Reach.log_usable n m.log c.used c.oldest c.free_first c.free_last f.log.size f.log.chains

  pub log_inside : every (within 1 512) (log_records n m.log c.oldest) ≡ true
  log_inside = Reach.log_inside n m.log c.used c.oldest c.free_first c.free_last f.log.size f.log.chains

  pub log_walkable : (k : ℕ) → k ≤ n → walkable k m.log c.oldest ≡ true
  log_walkable = Reach.walks n m.log c.used c.oldest c.free_first c.free_last f.log.size f.log.chains

  -- transaction k + 1, which is in the chain: its records can act on a copy, it has 1 to 8 of them, and its operations are of their fields
  module _ (k : ℕ) (l : c.retired ≤ k) (u : k < c.commits) where
    inside : k - c.retired < n
    unfolding log_count
    inside = omega arith

    pub transaction_usable : every (usable m.log) (records_of m.log (walk (k - c.retired) m.log c.oldest)) ≡ true
    transaction_usable = Reach.transaction_usable n m.log c.used c.oldest c.free_first c.free_last f.log.size f.log.chains (k - c.retired) inside

    pub transaction_length : (1 ≤ length (records_of m.log (walk (k - c.retired) m.log c.oldest))) × (length (records_of m.log (walk (k - c.retired) m.log c.oldest)) ≤ 8)
    transaction_length = Reach.transaction_length n m.log c.used c.oldest c.free_first c.free_last f.log.size f.log.chains (k - c.retired) inside

    pub transaction_operations : Operations (transaction_at m.log (walk (k - c.retired) m.log c.oldest))
    transaction_operations = Reach.transaction_operations n m.log c.used c.oldest c.free_first c.free_last f.log.size f.log.chains (k - c.retired) inside

  -- a commit of operations to the first free records
  module _ (ops : List (List ℕ)) (g : Givens ops) (k1 : 1 ≤ length ops) (k8 : length ops ≤ 8) (room : c.used + length ops ≤ 512) where
    abbrev log' : List ℕ
    log' = appended n m.log c.oldest c.free_first ops

    abbrev next : ℕ
    next = follow (length ops) m.log c.free_first

    one_more : log_count (committed c (length ops) next) ≡ n + 1
    unfolding log_count committed
    one_more = let k = retired_known c m f in omega arith

    pub committed_log : LogFormed (committed c (length ops) next) log'
    unfolding committed
    committed_log = record {
      size = length_appended n m.log c.used c.oldest c.free_first c.free_last f.log.size f.log.chains ops g room;
      chains = rw one_more (commit_kept n m.log c.used c.oldest c.free_first c.free_last f.log.size f.log.chains ops g k1 k8 room next refl);
    }

    pub committed_transactions : transactions_from (log_count (committed c (length ops) next)) log' (committed c (length ops) next).oldest ≡ transactions_from n m.log c.oldest ++ (ops ∷ [])
    unfolding committed
    committed_transactions = rw one_more (append_texts n m.log c.used c.oldest c.free_first c.free_last f.log.size f.log.chains ops g k1 k8 room)

  -- the oldest transaction retired
  module _ (some : c.retired < c.commits) where
    abbrev log'' : List ℕ
    log'' = released m.log c.oldest c.free_last

    fewer : ℕ
    fewer = log_count (retired_control c m.log)

    one_fewer : n ≡ suc fewer
    unfolding fewer log_count retired_control
    one_fewer = omega arith

    chains : chains_form (suc fewer) m.log c.used c.oldest c.free_first c.free_last ≡ true
    chains = ap (λ (k : ℕ). chains_form k m.log c.used c.oldest c.free_first c.free_last) (sym one_fewer) ∙ f.log.chains

    pub retired_log : LogFormed (retired_control c m.log) log''
    unfolding fewer retired_control
    retired_log = record {
      size = length_released fewer m.log c.used c.oldest c.free_first c.free_last f.log.size chains;
      chains = retire_kept fewer m.log c.used c.oldest c.free_first c.free_last f.log.size chains;
    }

    later : transactions_from fewer log'' (retired_control c m.log).oldest ≡ transactions_from fewer m.log (next_transaction m.log c.oldest)
    unfolding retired_control
    later = retire_texts fewer m.log c.used c.oldest c.free_first c.free_last f.log.size chains

    -- its transactions before: the oldest, and those of the new log
    pub oldest_first : logged c m.log ≡ map handed_in (transaction_at m.log c.oldest) ∷ logged (retired_control c m.log) log''
    unfolding fewer transactions_from
    oldest_first = ap (λ (k : ℕ). transactions_from k m.log c.oldest) one_fewer ∙ ap (λ (z : List Transaction). map handed_in (transaction_at m.log c.oldest) ∷ z) (sym later)
