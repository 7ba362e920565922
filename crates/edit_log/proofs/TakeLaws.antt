-- The front of the free chain, written record by record while the chain is followed.
use Prim.Native.Nat.{ℕ, zero, suc, ◌+◌, ◌-◌, ◌*◌, ◌<◌, ◌≤◌}
use mathlib.Core.Path.{◌≡◌, refl, sym, ap, ◌∙◌}
use mathlib.Core.Logic.{◌≢◌}
use mathlib.Core.Bool.{Bool, true, false}
use mathlib.Core.List.{List, [], ◌∷◌, ◌++◌}
use native.Mathlib.Omega.{arith}
use lib.ListN.{length, take, drop, length-append, length-drop}
use Rattle.std.proofs.Math.Seq.{take-append_seam, drop-append_seam}
use Rattle.std.proofs.lemmas.List.{drop-drop}
use lib.Dec.{eqb}
use borrow.Author.Tests.{eqb-true, eqb-false}
use Rattle.carts.specs.Bytes.{over, u16_bytes, within, every, parts}
use Rattle.carts.proofs.RecordLaws.{left_suc, parts_next}
use Rattle.carts.proofs.TestLaws.{and_left, and_right, within_low, within_high}
use Rattle.edit_log.specs.Log.{record_at, with_record, next_operation, chain, front, follow}
use Rattle.edit_log.specs.Writes.{write_all}
use Rattle.edit_log.specs.Chains.{count}
use Rattle.edit_log.specs.Values.{Takeable}
use Rattle.edit_log.proofs.ChainLaws.{chain_cons, chain_zero}
use Rattle.edit_log.proofs.ListLaws.{count_more, front_chain}
use Rattle.edit_log.proofs.OnceLaws.{count_here, every_in}
use Rattle.edit_log.proofs.WriteLaws.{record_other}
use Rattle.edit_log.proofs.AppendLaws.{by_next}
use Rattle.edit_log.proofs.LinkLaws.{linked_to, length_linked}

none : (log : List ℕ) (r : ℕ) → chain 0 log r ≡ []
unfolding chain
none log r = refl

-- a log with the same links along the chain
pub chain_kept : (k : ℕ) (log log' : List ℕ) (r : ℕ) → ((q : ℕ) → 1 ≤ count q (chain k log r) → next_operation log' q ≡ next_operation log q) → chain k log' r ≡ chain k log r
chain_kept zero log log' r f = none log' r ∙ sym (none log r)
chain_kept (suc k) log log' r f = go (eqb r 0) refl (chain_kept k log log' (next_operation log r))
  where
    go : (b : Bool) → eqb r 0 ≡ b → (((q : ℕ) → 1 ≤ count q (chain k log (next_operation log r)) → next_operation log' q ≡ next_operation log q) → chain k log' (next_operation log r) ≡ chain k log (next_operation log r))
        → chain (suc k) log' r ≡ chain (suc k) log r
    go true e rec = rw (eqb-true r 0 e, chain_zero (suc k) log', chain_zero (suc k) log)
    go false e rec =
        let n = eqb-false r 0 e in
        let rest = chain k log (next_operation log r) in
        let c : chain (suc k) log r ≡ r ∷ rest = chain_cons k log r (omega arith) in
        let h = count_here r rest in
        let here : next_operation log' r ≡ next_operation log r = f r (rw c (omega arith)) in
        rw (c, chain_cons k log' r (omega arith), here) (ap (λ z. r ∷ z) (rec (λ q l. let m = count_more q r rest in f q (rw c (omega arith)))))

pub follow_kept : (k : ℕ) (log log' : List ℕ) (r : ℕ) → length (chain k log r) ≡ k → ((q : ℕ) → 1 ≤ count q (chain k log r) → next_operation log' q ≡ next_operation log q) → follow k log' r ≡ follow k log r
unfolding follow
follow_kept zero log log' r e f = refl
follow_kept (suc k) log log' r e f = go (eqb r 0) refl (follow_kept k log log' (next_operation log r))
  where
    go : (b : Bool) → eqb r 0 ≡ b → (length (chain k log (next_operation log r)) ≡ k → ((q : ℕ) → 1 ≤ count q (chain k log (next_operation log r)) → next_operation log' q ≡ next_operation log q) → follow k log' (next_operation log r) ≡ follow k log (next_operation log r))
        → follow k log' (next_operation log' r) ≡ follow k log (next_operation log r)
    go true b rec = let z : length (chain (suc k) log r) ≡ 0 = rw (eqb-true r 0 b, chain_zero (suc k) log) in let y : ⊥ = omega arith in absurd y
    go false b rec =
        let n = eqb-false r 0 b in
        let rest = chain k log (next_operation log r) in
        let c : chain (suc k) log r ≡ r ∷ rest = chain_cons k log r (omega arith) in
        let d : length (r ∷ rest) ≡ suc k = rw c at e in
        let h = count_here r rest in
        let here : next_operation log' r ≡ next_operation log r = f r (rw c (omega arith)) in
        rw here (rec (omega arith) (λ q l. let m = count_more q r rest in f q (rw c (omega arith))))

-- a record more: k + 1 can be written, r is the first
module _ (k : ℕ) (log : List ℕ) (r : ℕ) (x : Takeable (suc k) log r) where
  abbrev later : List ℕ
  later = chain k log (next_operation log r)

  take_some : 1 ≤ r
  take_some = go (eqb r 0) refl
    where
      go : (b : Bool) → eqb r 0 ≡ b → 1 ≤ r
      go true e = let z : length (chain (suc k) log r) ≡ 0 = rw (eqb-true r 0 e, chain_zero (suc k) log) in let m = x.many in let y : ⊥ = omega arith in absurd y
      go false e = let n = eqb-false r 0 e in omega arith

  cons : chain (suc k) log r ≡ r ∷ later
  cons = chain_cons k log r take_some

  take_most : r ≤ 512
  unfolding every
  take_most = within_high 1 512 r (and_left (within 1 512 r) (every (within 1 512) later) (rw cons at x.inside))

  -- r is not among the others
  later_none : count r later ≡ 0
  later_none = let h = count_here r later in let d : count r (r ∷ later) ≤ 1 = rw cons at (x.distinct r) in omega arith

  module _ (log' : List ℕ) (same : (q : ℕ) → 1 ≤ q → q ≢ r → record_at log' q ≡ record_at log q) where
    links : (q : ℕ) → 1 ≤ count q later → next_operation log' q ≡ next_operation log q
    unfolding every
    links q l = by_next log' log q (same q low (λ e. apart e))
      where
        low : 1 ≤ q
        low = within_low 1 512 q (every_in (within 1 512) later q (and_right (within 1 512 r) (every (within 1 512) later) (rw cons at x.inside)) l)

        apart : q ≡ r → ⊥
        apart e = let n = later_none in let m : 1 ≤ count r later = rw e at l in omega arith

    pub later_chain : chain k log' (next_operation log r) ≡ later
    later_chain = chain_kept k log log' (next_operation log r) links

    pub later_follow : follow k log' (next_operation log r) ≡ follow k log (next_operation log r)
    later_follow = follow_kept k log log' (next_operation log r) (let m : length (r ∷ later) ≡ suc k = rw cons at x.many in omega arith) links

    pub later_takeable : Takeable k log' (next_operation log r)
    unfolding every
    later_takeable = record {
      many = rw later_chain (let m : length (r ∷ later) ≡ suc k = rw cons at x.many in omega arith);
      inside = rw later_chain (and_right (within 1 512 r) (every (within 1 512) later) (rw cons at x.inside));
      distinct = λ q. rw later_chain (let d : count q (r ∷ later) ≤ 1 = rw cons at (x.distinct q) in let m = count_more q r later in omega arith);
    }

front_nil : front [] ≡ 0
unfolding front
front_nil = refl

-- the index that is written
pub next_front : (k : ℕ) (log : List ℕ) (after v : ℕ) → (k ≡ 0 → v ≡ 0) → (1 ≤ k → v ≡ after) → v ≡ front (chain k log after)
next_front zero log after v f g = f refl ∙ sym (ap front (none log after) ∙ front_nil)
next_front (suc k) log after v f g = g (omega arith) ∙ sym (front_chain (suc k) log after (omega arith))

-- the next of the operations, each of 80 bytes: the one at the front of what is left of s
module _ (s : List ℕ) (i : ℕ) (op rest : List ℕ) (e : drop (80 * i) s ≡ op ++ rest) (long : length op ≡ 80) where
  pub op_fits : 80 * i + 80 ≤ length s
  op_fits =
      let l : length (drop (80 * i) s) ≡ length op + length rest = ap length e ∙ length-append op rest in
      let d : length (drop (80 * i) s) ≡ length s - 80 * i = length-drop (80 * i) s in
      omega arith

  pub op_is : op ≡ take 80 (drop (80 * i) s)
  op_is = sym (ap (take 80) e ∙ ap (λ n. take n (op ++ rest)) (sym long) ∙ take-append_seam op rest)

  pub op_rest : rest ≡ drop (80 * (i + 1)) s
  op_rest =
      let f : 80 * (i + 1) ≡ 80 * i + 80 = omega arith in
      sym (ap (λ n. drop n s) f ∙ sym (drop-drop 80 (80 * i) s) ∙ ap (drop 80) e ∙ ap (λ n. drop n (op ++ rest)) (sym long) ∙ drop-append_seam op rest)

-- n operations in s, of which i have been written; the next one goes to record r
module _ (n i : ℕ) (s log : List ℕ) (r : ℕ) where
  abbrev pub ToWrite : List ℕ
  ToWrite = write_all (chain (n - i) log r) (parts 80 (n - i) (drop (80 * i) s)) log

  pub write_end : n ≤ i → ToWrite ≡ log
  unfolding write_all chain
  write_end h = let e : n - i ≡ 0 = omega arith in rw e

  pub follow_end : n ≤ i → follow (n - i) log r ≡ r
  unfolding follow
  follow_end h = let e : n - i ≡ 0 = omega arith in rw e

  module _ (h : i < n) (x : Takeable (n - i) log r) where
    abbrev k : ℕ
    k = n - (i + 1)

    fewer : n - i ≡ suc k
    fewer = left_suc n i h

    y : Takeable (suc k) log r
    y = rw fewer at x

    pub here : (1 ≤ r) × (r ≤ 512)
    here = (take_some k log r y, take_most k log r y)

    module _ (size : length log ≡ 40960) (after : ℕ) (a : after ≡ next_operation log r) (v : ℕ) (last : n - i - 1 ≡ 0 → v ≡ 0) (more : 1 ≤ n - i - 1 → v ≡ after)
        (op : List ℕ) (long : length op ≡ 80) (is_op : op ≡ take 80 (drop (80 * i) s)) (new : List ℕ) (w : new ≡ over log (80 * (r - 1)) 80 (over op 12 2 (u16_bytes v))) where
      is_new_law : new ≡ with_record log r (linked_to v op)
      unfolding with_record
      is_new_law = w

      same : (q : ℕ) → 1 ≤ q → q ≢ r → record_at new q ≡ record_at log q
      same q l ne = ap (λ z. record_at z q) is_new_law ∙ record_other log size r here.0 here.1 (linked_to v op) (length_linked v op long) q l ne

      is_front : v ≡ front (chain k log (next_operation log r))
      is_front =
          let e : n - i - 1 ≡ k = omega arith in
          next_front k log (next_operation log r) v (λ z. last (e ∙ z)) (λ z. more (omega arith) ∙ a)

      pub write_next : ToWrite ≡ write_all (chain k new after) (parts 80 k (drop (80 * (i + 1)) s)) new
      unfolding write_all
      write_next = s1 ∙ s2 ∙ ap (write_all rest ps) (sym is_new_law) ∙ ap (λ z. write_all z ps new) (sym (ap (chain k new) a ∙ later_chain k log r y new same))
        where
          rest : List ℕ
          rest = chain k log (next_operation log r)

          ps : List (List ℕ)
          ps = parts 80 k (drop (80 * (i + 1)) s)

          parts_k : parts 80 (suc k) (drop (80 * i) s) ≡ op ∷ ps
          parts_k = ap (λ z. parts 80 z (drop (80 * i) s)) (sym fewer) ∙ parts_next 80 n i s h ∙ ap (λ z. z ∷ ps) (sym is_op)

          s1 : ToWrite ≡ write_all (r ∷ rest) (op ∷ ps) log
          s1 = rw (fewer, chain_cons k log r here.0, parts_k)

          s2 : write_all (r ∷ rest) (op ∷ ps) log ≡ write_all rest ps (with_record log r (linked_to v op))
          s2 = ap (λ z. write_all rest ps (with_record log r (linked_to z op))) (sym is_front)

      pub takeable_next : Takeable k new after
      takeable_next = rw a (later_takeable k log r y new same)

      pub follow_next : follow (n - i) log r ≡ follow k new after
      unfolding follow
      follow_next = ap (λ z. follow z log r) fewer ∙ rw a (sym (later_follow k log r y new same))
