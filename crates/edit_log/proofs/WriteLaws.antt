-- Operations written to records, wherever these stand: each is linked to the next, and no other record changes.
use Prim.Native.Nat.{ℕ, ◌≤◌}
use mathlib.Core.Path.{◌≡◌, refl, sym, ap, ◌∙◌}
use mathlib.Core.Logic.{◌≢◌}
use mathlib.Core.Bool.{true}
use mathlib.Core.List.{List, [], ◌∷◌, map}
use native.Mathlib.Omega.{arith}
use lib.ListN.{length}
use lib.Dec.{eqb}
use borrow.Author.Tests.{eq-eqb, eqb-true}
use Rattle.carts.specs.Bytes.{part, within, all, every, all_zero}
use Rattle.carts.specs.Operation.{operation_fields, operation_form, operations_of}
use Rattle.carts.proofs.TestLaws.{and_left, and_right, all_at, within_low, within_high}
use Rattle.carts.proofs.OperationLaws.{operations_of_law}
use Rattle.carts.proofs.CellLaws.{length_cell, length_cells, cell_same, cell_other}
use Rattle.edit_log.specs.Log.{record_at, with_record, next_operation, next_transaction, front, handed_in}
use Rattle.edit_log.specs.Writes.{write_all, linked}
use Rattle.edit_log.specs.Chains.{count}
use Rattle.edit_log.proofs.BoolLaws.{and_of}
use Rattle.edit_log.proofs.LinkLaws.{linked_to, followed_by, length_linked, linked_next, linked_fields, linked_last, length_followed, followed_next, followed_last, followed_fields, linked_handed, followed_handed}
use Rattle.edit_log.proofs.OnceLaws.{count_here}
use Rattle.edit_log.proofs.ListLaws.{Linked, count_more}

-- one record written
module _ (log : List ℕ) (n : length log ≡ 40960) (r : ℕ) (low : 1 ≤ r) (high : r ≤ 512) where
  pub length_record : length (record_at log r) ≡ 80
  unfolding record_at
  length_record = length_cell 512 log n r low high

  module _ (x : List ℕ) (e : length x ≡ 80) where
    pub length_written : length (with_record log r x) ≡ 40960
    unfolding with_record
    length_written = length_cells 512 log n r low high x e

    pub record_same : record_at (with_record log r x) r ≡ x
    unfolding record_at with_record
    record_same = cell_same 512 log n r low high x e

    pub record_other : (q : ℕ) → 1 ≤ q → q ≢ r → record_at (with_record log r x) q ≡ record_at log q
    unfolding record_at with_record
    record_other q l ne = cell_other 512 log n r low high x e q l ne

-- an operation as handed in
pub record Given (op : List ℕ) : Type 0 where
  pub size : length op ≡ 80
  pub fields : operation_fields op ≡ true
  pub plain : all_zero (part op 12 4) ≡ true

unfoldable pub Givens : List (List ℕ) → Type 0
Givens [] = Unit {0}
Givens (op ∷ ops) = Given op × Givens ops

pub givens_of : (ops : List (List ℕ)) → every (λ op. eqb (length op) 80) ops ≡ true → every operation_form ops ≡ true → Givens ops
unfolding Givens every operation_form
givens_of [] s f = tt
givens_of (op ∷ ops) s f =
    let own : all (operation_fields op ∷ all_zero (part op 12 4) ∷ []) ≡ true = and_left (operation_form op) (every operation_form ops) f in (
      record {
        size = eqb-true _ 80 (and_left (eqb (length op) 80) (every (λ x. eqb (length x) 80) ops) s);
        fields = all_at 0 (operation_fields op ∷ all_zero (part op 12 4) ∷ []) own;
        plain = all_at 1 (operation_fields op ∷ all_zero (part op 12 4) ∷ []) own;
      },
      givens_of ops (and_right (eqb (length op) 80) (every (λ x. eqb (length x) 80) ops) s) (and_right (operation_form op) (every operation_form ops) f),
    )

pub givens : (bytes : List ℕ) → every operation_form (operations_of bytes) ≡ true → Givens (operations_of bytes)
givens bytes h = givens_of (operations_of bytes) (operations_of_law bytes h).sizes h

unfoldable pub Sizes : List (List ℕ) → Type 0
Sizes [] = Unit {0}
Sizes (op ∷ ops) = (length op ≡ 80) × Sizes ops

pub given_sizes : (ops : List (List ℕ)) → Givens ops → Sizes ops
unfolding Givens Sizes
given_sizes [] g = tt
given_sizes (op ∷ ops) g = (g.0.size, given_sizes ops g.1)

-- the log has the operations in the records rs
unfoldable pub Written : List ℕ → List ℕ → List (List ℕ) → Type 0
Written log [] ops = Unit {0}
Written log (r ∷ rs) [] = Unit {0}
Written log (r ∷ rs) (op ∷ ops) = (record_at log r ≡ linked_to (front rs) op) × Written log rs ops

-- no record twice
abbrev pub Distinct : List ℕ → Type 0
Distinct rs = (q : ℕ) → count q rs ≤ 1

-- what writing them leaves, and what it makes
pub record Wrote (log rs : List ℕ) (ops : List (List ℕ)) (log' : List ℕ) : Type 0 where
  pub size : length log' ≡ 40960
  pub other : (q : ℕ) → 1 ≤ q → count q rs ≡ 0 → record_at log' q ≡ record_at log q
  pub new : Written log' rs ops

pub wrote : (rs : List ℕ) (ops : List (List ℕ)) (log : List ℕ) → length log ≡ 40960 → length rs ≡ length ops → every (within 1 512) rs ≡ true → Distinct rs → Sizes ops
    → Wrote log rs ops (write_all rs ops log)
unfolding write_all Sizes Written every
wrote [] ops log n k i d g = record { size = n; other = λ q a b. refl; new = tt }
wrote (r ∷ rs) [] log n k i d g = let z : ⊥ = omega arith in absurd z
wrote (r ∷ rs) (op ∷ ops) log n k i d g =
    let x = linked_to (front rs) op in
    let e : length x ≡ 80 = length_linked (front rs) op g.0 in
    let here = and_left (within 1 512 r) (every (within 1 512) rs) i in
    let low = within_low 1 512 r here in
    let high = within_high 1 512 r here in
    let w = wrote rs ops (with_record log r x) (length_written log n r low high x e) (omega arith) (and_right (within 1 512 r) (every (within 1 512) rs) i)
    (λ q. let m = count_more q r rs in let y = d q in omega arith) g.1 in
    let c = count_here r rs in
    let y = d r in
    record {
      size = w.size;
      other = λ q a b. let m = count_more q r rs in w.other q a (omega arith) ∙ record_other log n r low high x e q a (apart r rs q b);
      new = (w.other r low (omega arith) ∙ record_same log n r low high x e, w.new);
    }
  where
    apart : (r : ℕ) (rs : List ℕ) (q : ℕ) → count q (r ∷ rs) ≡ 0 → q ≢ r
    apart r rs q b e = let c = count_here r rs in let f : count r (r ∷ rs) ≡ 0 = ap (λ k. count k (r ∷ rs)) (sym e) ∙ b in omega arith

-- what is known of the records written
module _ (log : List ℕ) where
  pub written_linked : (rs : List ℕ) (ops : List (List ℕ)) → length rs ≡ length ops → Sizes ops → Written log rs ops → Linked log rs
  unfolding Sizes Written Linked next_operation
  written_linked [] ops k g w = tt
  written_linked (r ∷ rs) [] k g w = let z : ⊥ = omega arith in absurd z
  written_linked (r ∷ rs) (op ∷ ops) k g w = (rw w.0 (linked_next (front rs) op g.0), written_linked rs ops (omega arith) g.1 w.1)

  pub written_fields : (rs : List ℕ) (ops : List (List ℕ)) → length rs ≡ length ops → Givens ops → Written log rs ops → every (λ q. operation_fields (record_at log q)) rs ≡ true
  unfolding Givens Written every
  written_fields [] ops k g w = refl
  written_fields (r ∷ rs) [] k g w = let z : ⊥ = omega arith in absurd z
  written_fields (r ∷ rs) (op ∷ ops) k g w =
      let e : operation_fields (record_at log r) ≡ true = rw w.0 (linked_fields (front rs) op g.0.size ∙ g.0.fields) in
      and_of _ _ e (written_fields rs ops (omega arith) g.1 w.1)

  pub written_last : (rs : List ℕ) (ops : List (List ℕ)) → length rs ≡ length ops → Givens ops → Written log rs ops → every (λ q. eqb (next_transaction log q) 0) rs ≡ true
  unfolding Givens Written every next_transaction
  written_last [] ops k g w = refl
  written_last (r ∷ rs) [] k g w = let z : ⊥ = omega arith in absurd z
  written_last (r ∷ rs) (op ∷ ops) k g w =
      let e : next_transaction log r ≡ 0 = rw w.0 (linked_last (front rs) op g.0.size g.0.plain) in
      and_of _ _ (eq-eqb (next_transaction log r) 0 e) (written_last rs ops (omega arith) g.1 w.1)

  -- the operations read back
  pub written_handed : (rs : List ℕ) (ops : List (List ℕ)) → length rs ≡ length ops → Givens ops → Written log rs ops → map handed_in (map (record_at log) rs) ≡ ops
  unfolding Givens Written
  written_handed [] [] k g w = refl
  written_handed [] (op ∷ ops) k g w = let z : ⊥ = omega arith in absurd z
  written_handed (r ∷ rs) [] k g w = let z : ⊥ = omega arith in absurd z
  written_handed (r ∷ rs) (op ∷ ops) k g w =
      rw (w.0, linked_handed (front rs) op g.0.size g.0.plain, written_handed rs ops (omega arith) g.1 w.1)

-- the link to the next transaction
module _ (log : List ℕ) (n : length log ≡ 40960) (r : ℕ) (low : 1 ≤ r) (high : r ≤ 512) (first : ℕ) where
  long : length (followed_by first (record_at log r)) ≡ 80
  long = length_followed first (record_at log r) (length_record log n r low high)

  pub joined_size : length (linked log r first) ≡ 40960
  unfolding linked
  joined_size = length_written log n r low high (followed_by first (record_at log r)) long

  pub joined_other : (q : ℕ) → 1 ≤ q → q ≢ r → record_at (linked log r first) q ≡ record_at log q
  unfolding linked
  joined_other q l ne = record_other log n r low high (followed_by first (record_at log r)) long q l ne

  same : record_at (linked log r first) r ≡ followed_by first (record_at log r)
  unfolding linked
  same = record_same log n r low high (followed_by first (record_at log r)) long

  pub joined_link : next_transaction (linked log r first) r ≡ first
  unfolding next_transaction
  joined_link = rw same (followed_last first (record_at log r) (length_record log n r low high))

  pub joined_next : next_operation (linked log r first) r ≡ next_operation log r
  unfolding next_operation
  joined_next = rw same (followed_next first (record_at log r) (length_record log n r low high))

  pub joined_fields : operation_fields (record_at (linked log r first) r) ≡ operation_fields (record_at log r)
  joined_fields = rw same (followed_fields first (record_at log r) (length_record log n r low high))

  pub joined_text : handed_in (record_at (linked log r first) r) ≡ handed_in (record_at log r)
  joined_text = rw same (followed_handed first (record_at log r) (length_record log n r low high))
