-- The records that the log's transactions take, the library that no transaction makes, and transactions of their form.
use mathlib.Core.Path.{◌≡◌, refl, sym, ap}
use mathlib.Core.Bool.{Bool, true}
use mathlib.Core.List.{List, [], ◌∷◌, ◌++◌}
use Prim.Native.Nat.{ℕ, zero, suc}
use lib.Dec.{eqb}
use lib.ListN.{length, length-append}
use lib.Seq.{take-nil}
use Rattle.carts.specs.Bytes.{zeros, every}
use Rattle.carts.specs.Operation.{operation_fields}
use Rattle.carts.specs.Transaction.{Transaction, replay, L, records_used}
use Rattle.carts.proofs.TestLaws.{and_left, and_right, all_at, all_cons, all_nil}
use Rattle.carts.proofs.OperationLaws.{Operations}
use Rattle.machine.proofs.Sort.{All}
use Rattle.refinement.specs.Represents.{fields_form}
use Rattle.edit_log.specs.Log.{next_transaction, records_of, transactions_from, log_records}
use Rattle.edit_log.proofs.TransactionLaws.{length_handed_in}

-- the records of the transactions are those that the chain passes
pub records_used_law : (n : ℕ) (log : List ℕ) (r : ℕ) → records_used (transactions_from n log r) ≡ length (log_records n log r)
unfolding transactions_from records_used log_records
records_used_law zero log r = refl
records_used_law (suc n) log r =
    rw (length_handed_in log r, records_used_law n log (next_transaction log r))
    (sym (length-append (records_of log r) (log_records n log (next_transaction log r))))

-- L(0) has 128 empty carts
pub L-nil : (n : ℕ) → L [] n ≡ zeros 10240
unfolding L replay
L-nil n = ap (replay (zeros 10240)) (take-nil n)

-- transactions whose operations have the fields of their kinds
pub operations_form : (t : Transaction) → Operations t → fields_form t ≡ true
unfolding fields_form
operations_form t o = all_cons _ _ o.sizes (all_cons _ _ o.fields all_nil)

pub form_operations : (t : Transaction) → fields_form t ≡ true → Operations t
unfolding fields_form
form_operations t h =
    let tests : List Bool = every (λ op. eqb (length op) 80) t ∷ every operation_fields t ∷ [] in
    record { sizes = all_at 0 tests h; fields = all_at 1 tests h }

pub every_snoc : (p : Transaction → Bool) (l : List Transaction) (t : Transaction) → every p l ≡ true → p t ≡ true → every p (l ++ (t ∷ [])) ≡ true
unfolding every
every_snoc p [] t h e = rw e
every_snoc p (x ∷ l) t h e = rw (and_left (p x) (every p l) h) (every_snoc p l t (and_right (p x) (every p l) h) e)

pub all_operations : (l : List Transaction) → every fields_form l ≡ true → All Operations l
unfolding every
all_operations [] h = tt
all_operations (t ∷ l) h = (form_operations t (and_left (fields_form t) (every fields_form l) h), all_operations l (and_right (fields_form t) (every fields_form l) h))

pub all_append : (l k : List Transaction) → All Operations l → All Operations k → All Operations (l ++ k)
all_append [] k a b = b
all_append (t ∷ l) k a b = (a.0, all_append l k a.1 b)
