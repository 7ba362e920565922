-- What the code appends and retires is what the definitions say, and what it asks of the log holds in a log of the layout.
use Prim.Native.Nat.{ℕ, zero, suc, ◌+◌, ◌-◌, ◌*◌, ◌/◌, ◌<◌, ◌≤◌}
use mathlib.Core.Path.{◌≡◌, refl, sym, ap, ◌∙◌}
use mathlib.Core.Bool.{Bool, true, false, cond, ◌&&◌}
use mathlib.Core.List.{List, [], ◌∷◌, ◌++◌}
use native.Mathlib.Omega.{arith}
use native.Mathlib.Decide.{dec_le}
use lib.ListN.{length, take, drop, take-append-drop, length-drop, drop_of_length-le}
use lib.Seq.{length-take-le}
use lib.Dec.{eqb}
use borrow.Author.Tests.{eq-eqb, ne_eqb, eqb-true, eqb-false}
use Rattle.carts.specs.Bytes.{part, over, u16_bytes, within, every}
use Rattle.carts.specs.Operation.{operations_of}
use Rattle.carts.proofs.EachLaws.{length_parts}
use Rattle.carts.proofs.TestLaws.{and_left, and_right, within_low, within_high, within_of}
use Rattle.edit_log.specs.Log.{record_at, with_record, next_operation, next_transaction, chain, records_of, walk, front, free_records, back, follow}
use Rattle.edit_log.specs.Writes.{write_all, linked, appended}
use Rattle.edit_log.specs.Chains.{count, chains_form}
use Rattle.edit_log.specs.Values.{walkable, Takeable}
use Rattle.edit_log.proofs.BoolLaws.{and_of}
use Rattle.edit_log.proofs.ChainLaws.{chain_cons, chain_zero}
use Rattle.edit_log.proofs.ListLaws.{back_drop, take_chain, front_chain, front_append, every_append}
use Rattle.edit_log.proofs.OnceLaws.{count_append}
use Rattle.edit_log.proofs.HoldLaws.{joined, Stand, Holds, transactions, holds_of, used_is, oldest_is, last_is}
use Rattle.edit_log.proofs.AppendLaws.{once_in, once_most, front_count, append_kept}
use Rattle.edit_log.proofs.WriteLaws.{Givens}

pub length_operations : (s : List ℕ) → length (operations_of s) ≡ length s / 80
unfolding operations_of
length_operations s = length_parts 80 (length s / 80) s

pub walkable_last : (n : ℕ) (log : List ℕ) (r : ℕ) → walkable (suc n) log r ≡ true → (walkable n log r ≡ true) × ((1 ≤ walk n log r) × (walk n log r ≤ 512))
unfolding walkable walk
walkable_last zero log r w = let i = and_left (within 1 512 r) true w in (refl, (within_low 1 512 r i, within_high 1 512 r i))
walkable_last (suc n) log r w =
    let i = and_left (within 1 512 r) (walkable (suc n) log (next_transaction log r)) w in
    let l = walkable_last n log (next_transaction log r) (and_right (within 1 512 r) (walkable (suc n) log (next_transaction log r)) w) in
    (rw (i, l.0), l.1)

pub before_last : (n : ℕ) (log : List ℕ) (r : ℕ) → (n ≡ 0 → ⊥) → walkable n log r ≡ true → (walkable (n - 1) log r ≡ true) × ((1 ≤ walk (n - 1) log r) × (walk (n - 1) log r ≤ 512))
before_last n log r h w = let q : n ≡ suc (n - 1) = omega arith in walkable_last (n - 1) log r (sym (ap (λ k. walkable k log r) q) ∙ w)

-- the whole log after a commit of the operations in s
module _ (n : ℕ) (log : List ℕ) (oldest first : ℕ) (s : List ℕ) where
  pub append_first : n ≡ 0 → (new : List ℕ) → new ≡ write_all (chain (length s / 80) log first) (operations_of s) log → new ≡ appended n log oldest first (operations_of s)
  unfolding appended
  append_first e new w = w ∙ rw (eq-eqb n 0 e, length_operations s)

  -- `written` is the log with the operations, `new` the log with the link too
  pub append_later : (n ≡ 0 → ⊥) → 1 ≤ length s / 80 → (last : ℕ) → last ≡ walk (n - 1) log oldest
      → (written : List ℕ) → written ≡ write_all (chain (length s / 80) log first) (operations_of s) log
      → (new : List ℕ) → new ≡ over written (80 * (last - 1)) 80 (over (part written (80 * (last - 1)) 80) 14 2 (u16_bytes first)) → new ≡ appended n log oldest first (operations_of s)
  unfolding appended linked with_record record_at
  append_later h l last e written w new q =
      q ∙ rw (ne_eqb n 0 h, length_operations s, front_chain (length s / 80) log first l, ← e, ← w)

pub stand_walkable : (k : ℕ) (log : List ℕ) (r : ℕ) → Stand log (transactions k log r) → front (joined (transactions k log r)) ≡ r
    → ((q : ℕ) → 1 ≤ count q (joined (transactions k log r)) → (1 ≤ q) × (q ≤ 512)) → walkable k log r ≡ true
unfolding Stand transactions joined walkable
stand_walkable zero log r s e f = refl
stand_walkable (suc k) log r s e f =
    let t = records_of log r in
    let rest = joined (transactions k log (next_transaction log r)) in
    let low = s.0.low in
    let first : front t ≡ r = sym (front_append t rest low) ∙ e in
    let c = front_count t low in
    let d = count_append (front t) t rest in
    let i : (1 ≤ r) × (r ≤ 512) = rw first at (f (front t) (omega arith)) in
    let next : front rest ≡ next_transaction log r = sym (ap (next_transaction log) (sym first) ∙ s.0.follows) in
    and_of _ _ (within_of 1 512 r i.0 i.1) (stand_walkable k log (next_transaction log r) s.1 next (λ q l. f q (let b = count_append q t rest in omega arith)))

-- in a log of the layout: the front of the free chain can be taken, and the transactions can be walked along
module _ (n : ℕ) (log : List ℕ) (used oldest first last : ℕ) (h : chains_form n log used oldest first last ≡ true) where
  x : Holds log (transactions n log oldest) (free_records log first)
  x = holds_of n log used oldest first last h

  pub free_many : length (free_records log first) ≡ 512 - used
  free_many = let u = used_is n log used oldest first last h in let a = x.all512 in omega arith

  pub free_takeable : (k : ℕ) → used + k ≤ 512 → Takeable k log first
  unfolding free_records
  free_takeable k l =
      let free = chain 513 log first in
      let e : take k free ≡ chain k log first = take_chain k 513 log first (omega arith) in
      let u = used_is n log used oldest first last h in
      let a = x.all512 in
      let s : free ≡ take k free ++ drop k free = sym (take-append-drop k free) in
      let w = within 1 512 in
      let i : every w free ≡ true = and_right (every w (joined (transactions n log oldest))) (every w free) (sym (every_append w (joined (transactions n log oldest)) free) ∙ x.once.inside) in
      let j : (every w (take k free) && every w (drop k free)) ≡ true = sym (every_append w (take k free) (drop k free)) ∙ ap (every w) (sym s) ∙ i in
      record {
        many = ap length (sym e) ∙ length-take-le k free (omega arith);
        inside = ap (every w) (sym e) ∙ and_left (every w (take k free)) (every w (drop k free)) j;
        distinct = λ q.
            let c = count_append q (joined (transactions n log oldest)) free in
            let d : count q free ≡ count q (take k free) + count q (drop k free) = ap (count q) s ∙ count_append q (take k free) (drop k free) in
            let m = once_most (joined (transactions n log oldest) ++ free) x.once q in
            let f : count q (take k free) ≡ count q (chain k log first) = ap (count q) e in
            omega arith;
      }

  pub log_walkable : walkable n log oldest ≡ true
  log_walkable = stand_walkable n log oldest x.stand (oldest_is n log used oldest first last h)
      (λ q l. let c = count_append q (joined (transactions n log oldest)) (free_records log first) in once_in (joined (transactions n log oldest) ++ free_records log first) x.once q (omega arith))

front_nil : front [] ≡ 0
unfolding front
front_nil = refl

back_nil : back 0 [] ≡ 0
unfolding back
back_nil = refl

-- the free chain from its k-th record on, and control's values after a commit
pub drop_chain : (k m : ℕ) (log : List ℕ) (r : ℕ) → k ≤ m → length (chain k log r) ≡ k → drop k (chain m log r) ≡ chain (m - k) log (follow k log r)
unfolding follow
drop_chain zero m log r l e = let q : m ≡ m - 0 = omega arith in ap (λ z. chain z log r) q
drop_chain (suc k) zero log r l e = let z : ⊥ = omega arith in absurd z
drop_chain (suc k) (suc m) log r l e = go (eqb r 0) refl (drop_chain k m log (next_operation log r) (omega arith))
  where
    go : (b : Bool) → eqb r 0 ≡ b → (length (chain k log (next_operation log r)) ≡ k → drop k (chain m log (next_operation log r)) ≡ chain (m - k) log (follow k log (next_operation log r)))
        → drop (suc k) (chain (suc m) log r) ≡ chain (suc m - suc k) log (follow k log (next_operation log r))
    go true b rec = let z : length (chain (suc k) log r) ≡ 0 = rw (eqb-true r 0 b, chain_zero (suc k) log) in let y : ⊥ = omega arith in absurd y
    go false b rec =
        let n = eqb-false r 0 b in
        let c : chain (suc k) log r ≡ r ∷ chain k log (next_operation log r) = chain_cons k log r (omega arith) in
        let d : length (r ∷ chain k log (next_operation log r)) ≡ suc k = rw c at e in
        let q : suc m - suc k ≡ m - k = omega arith in
        rw (chain_cons m log r (omega arith), q) (rec (omega arith))

module _ (n : ℕ) (log : List ℕ) (used oldest first last : ℕ) (h : chains_form n log used oldest first last ≡ true) (k : ℕ) (room : used + k ≤ 512) where
  pub next_free : front (drop k (free_records log first)) ≡ follow k log first
  unfolding free_records
  next_free = ap front (drop_chain k 513 log first (omega arith) (free_takeable n log used oldest first last h k room).many) ∙ front_chain (513 - k) log (follow k log first) (omega arith)

  ended : follow k log first ≡ 0 → drop k (free_records log first) ≡ []
  unfolding free_records
  ended e = drop_chain k 513 log first (omega arith) (free_takeable n log used oldest first last h k room).many ∙ ap (chain (513 - k) log) e ∙ chain_zero (513 - k) log

  pub next_last : back 0 (drop k (free_records log first)) ≡ cond (eqb (follow k log first) 0) 0 last
  next_last = go (dec_le 512 (used + k))
    where
      many : length (free_records log first) ≡ 512 - used
      many = free_many n log used oldest first last h

      -- the free chain has more than k records, so the one after them is one of the 512
      some : used + k < 512 → follow k log first ≡ 0 → ⊥
      some l e =
          let m = many in
          let d : drop k (free_records log first) ≡ [] = ended e in
          let c : length (drop k (free_records log first)) ≡ length (free_records log first) - k = length-drop k (free_records log first) in
          let f : length (drop k (free_records log first)) ≡ 0 = ap length d in
          omega arith

      go : Dec (512 ≤ used + k) → back 0 (drop k (free_records log first)) ≡ cond (eqb (follow k log first) 0) 0 last
      go (yes l) =
          let m = many in
          let o : length (free_records log first) ≤ k = omega arith in
          let d : drop k (free_records log first) ≡ [] = drop_of_length-le (free_records log first) o in
          let z : follow k log first ≡ 0 = sym next_free ∙ ap front d ∙ front_nil in
          ap (back 0) d ∙ back_nil ∙ sym (ap (λ b. cond b 0 last) (eq-eqb (follow k log first) 0 z))
      go (no l) =
          let m = many in
          let e = back_drop 0 k (free_records log first) (omega arith) ∙ last_is n log used oldest first last h in
          let z : follow k log first ≡ 0 → ⊥ = some (omega arith) in
          rw (ne_eqb (follow k log first) 0 z) e

-- a commit of the operations ops, by what the code hands back: the two chains of the new log, with control's new values
pub commit_kept : (n : ℕ) (log : List ℕ) (used oldest first last : ℕ) → length log ≡ 40960 → chains_form n log used oldest first last ≡ true
    → (ops : List (List ℕ)) → Givens ops → 1 ≤ length ops → length ops ≤ 8 → used + length ops ≤ 512 → (next : ℕ) → next ≡ follow (length ops) log first
    → chains_form (n + 1) (appended n log oldest first ops) (used + length ops) (cond (eqb n 0) first oldest) next (cond (eqb next 0) 0 last) ≡ true
commit_kept n log used oldest first last size h ops g some few room next e =
    rw (next_free n log used oldest first last h (length ops) room, next_last n log used oldest first last h (length ops) room, ← e) at (append_kept n log used oldest first last size h ops g some few room)
