-- Records that follow one another: setup's free chain.
use Prim.Native.Nat.{ℕ, zero, suc, ◌+◌, ◌*◌, ◌-◌, ◌<◌, ◌≤◌}
use mathlib.Core.Path.{◌≡◌, refl, sym, ap, ◌∙◌}
use mathlib.Core.Bool.{Bool, true, ◌&&◌}
use mathlib.Core.List.{List, [], ◌∷◌, ◌++◌}
use native.Mathlib.Omega.{arith}
use native.Mathlib.Decide.{ℕ_discrete}
use lib.ListN.{length, replicate, length-replicate}
use Rattle.carts.specs.Bytes.{zeros, part, over, u16_bytes, within, every}
use Rattle.carts.proofs.TestLaws.{within_of}
use Rattle.carts.proofs.ZeroLaws.{length_zeros, part_zeros}
use Rattle.edit_log.specs.Log.{record_at, with_record, up_from, front, back}
use Rattle.edit_log.specs.Writes.{write_all, fresh_log}
use Rattle.edit_log.specs.Chains.{count, chains_form}
use Rattle.edit_log.proofs.LinkLaws.{length_linked}
use Rattle.edit_log.proofs.OnceLaws.{Once, count_nil, count_here, count_other, up_from_every}
use Rattle.edit_log.proofs.WriteLaws.{Distinct, Wrote, wrote, record_other, written_linked}
use Rattle.edit_log.proofs.HoldLaws.{joined, Stand, Holds, of_holds}
use Rattle.edit_log.proofs.AppendLaws.{joined_none}
use Rattle.edit_log.proofs.RetireLaws.{blank_sizes, cleared_free}

pub length_up_from : (r n : ℕ) → length (up_from r n) ≡ n
unfolding up_from
length_up_from r zero = refl
length_up_from r (suc n) = ap suc (length_up_from (r + 1) n)

up_from_none : (r : ℕ) → up_from r 0 ≡ []
unfolding up_from
up_from_none r = refl

pub front_up_from : (r n : ℕ) → 1 ≤ n → front (up_from r n) ≡ r
unfolding up_from front
front_up_from r zero h = let z : ⊥ = omega arith in absurd z
front_up_from r (suc n) h = refl

pub back_up_from : (d r n : ℕ) → 1 ≤ n → back d (up_from r n) + 1 ≡ r + n
unfolding up_from back
back_up_from d r zero h = let z : ⊥ = omega arith in absurd z
back_up_from d r (suc zero) h = refl
back_up_from d r (suc (suc n)) h = let e = back_up_from r (r + 1) (suc n) (omega arith) in omega arith

pub append_up_from : (r m n : ℕ) → up_from r m ++ up_from (r + m) n ≡ up_from r (m + n)
unfolding up_from
append_up_from r zero n = let e : r + 0 ≡ r = omega arith in let f : 0 + n ≡ n = omega arith in rw (e, f)
append_up_from r (suc m) n =
    let e : r + suc m ≡ r + 1 + m = omega arith in
    let f : suc m + n ≡ suc (m + n) = omega arith in
    rw (e, f) (ap (λ z. r ∷ z) (append_up_from (r + 1) m n))

-- the numbers from i + 1 to n by one test: the next of them, and the end
pub up_next : (p : ℕ → Bool) (n i : ℕ) → i < n → every p (up_from (i + 1) (n - i)) ≡ (p (i + 1) && every p (up_from (i + 1 + 1) (n - (i + 1))))
unfolding every up_from
up_next p n i h = let q : n - i ≡ suc (n - (i + 1)) = omega arith in rw q

pub up_end : (p : ℕ → Bool) (n i : ℕ) → n ≤ i → every p (up_from (i + 1) (n - i)) ≡ true
unfolding every up_from
up_end p n i h = let q : n - i ≡ 0 = omega arith in rw q

-- each of them occurs once
pub count_outside : (q r n : ℕ) → q < r → count q (up_from r n) ≡ 0
unfolding up_from
count_outside q r zero h = count_nil q
count_outside q r (suc n) h = count_other q r (up_from (r + 1) n) (λ e. omega arith) ∙ count_outside q (r + 1) n (omega arith)

pub count_inside : (q r n : ℕ) → r ≤ q → q < r + n → count q (up_from r n) ≡ 1
unfolding up_from
count_inside q r zero h l = let z : ⊥ = omega arith in absurd z
count_inside q r (suc n) h l = go (count_inside q (r + 1) n) (ℕ_discrete r q)
  where
    go : (r + 1 ≤ q → q < r + 1 + n → count q (up_from (r + 1) n) ≡ 1) → Dec (r ≡ q) → count q (r ∷ up_from (r + 1) n) ≡ 1
    go rec (yes e) =
        let a = count_here q (up_from (r + 1) n) in
        let b = count_outside q (r + 1) n (omega arith) in
        ap (λ k. count q (k ∷ up_from (r + 1) n)) e ∙ (let c : count q (q ∷ up_from (r + 1) n) ≡ 1 = omega arith in c)
    go rec (no e) = count_other q r (up_from (r + 1) n) e ∙ rec (omega arith) (omega arith)

pub distinct_up_from : (r n : ℕ) → Distinct (up_from r n)
unfolding up_from
distinct_up_from r zero q = let e = count_nil q in omega arith
distinct_up_from r (suc n) q = go (distinct_up_from (r + 1) n q) (ℕ_discrete r q)
  where
    go : count q (up_from (r + 1) n) ≤ 1 → Dec (r ≡ q) → count q (r ∷ up_from (r + 1) n) ≤ 1
    go rec (yes e) =
        let a = count_here q (up_from (r + 1) n) in
        let b = count_outside q (r + 1) n (omega arith) in
        let f : count q (r ∷ up_from (r + 1) n) ≡ count q (q ∷ up_from (r + 1) n) = ap (λ k. count q (k ∷ up_from (r + 1) n)) e in
        omega arith
    go rec (no e) = let f = count_other q r (up_from (r + 1) n) e in omega arith

pub once_up_from : Once (up_from 1 512)
once_up_from = record { inside = up_from_every (within 1 512) 1 512 (λ q a b. within_of 1 512 q a (omega arith)); once = λ r a b. count_inside r 1 512 a (omega arith) }

-- setup's log
fresh_wrote : Wrote (zeros 40960) (up_from 1 512) (replicate 512 (zeros 80)) fresh_log
unfolding fresh_log
fresh_wrote = rw (length_up_from 1 512)
    (wrote (up_from 1 512) (replicate 512 (zeros 80)) (zeros 40960) (length_zeros 40960) (length_up_from 1 512 ∙ sym (length-replicate {A = List ℕ} 512 (zeros 80))) once_up_from.inside (distinct_up_from 1 512) (blank_sizes 512))

pub fresh_size : length fresh_log ≡ 40960
fresh_size = fresh_wrote.size

pub fresh_holds : Holds fresh_log [] (up_from 1 512)
unfolding Stand joined
fresh_holds = record {
  stand = tt;
  links = written_linked fresh_log (up_from 1 512) (replicate 512 (zeros 80)) (length_up_from 1 512 ∙ sym (length-replicate {A = List ℕ} 512 (zeros 80))) (blank_sizes 512) fresh_wrote.new;
  zero = cleared_free (up_from 1 512) fresh_log (rw (length_up_from 1 512) fresh_wrote.new);
  once = once_up_from;
  all512 = let e = length_up_from 1 512 in omega arith;
}

front_nil : front [] ≡ 0
unfolding front
front_nil = refl

pub fresh_chains : chains_form 0 fresh_log 0 0 1 512 ≡ true
fresh_chains = rw (joined_none [] refl, front_nil, first, last) at (of_holds fresh_log [] (up_from 1 512) fresh_holds)
  where
    first : front (up_from 1 512) ≡ 1
    first = front_up_from 1 512 (omega arith)

    last : back 0 (up_from 1 512) ≡ 512
    last = let e = back_up_from 0 1 512 (omega arith) in omega arith

-- setup's loop: the records before r are free, the others zero
abbrev pub Blank : ℕ → List ℕ → Type 0
Blank r log = (q : ℕ) → r ≤ q → q ≤ 512 → record_at log q ≡ zeros 80

pub blank_start : (log : List ℕ) → log ≡ zeros 40960 → Blank 1 log
unfolding record_at
blank_start log e q low high = ap (λ (s : List ℕ). part s (80 * (q - 1)) 80) e ∙ part_zeros 40960 (80 * (q - 1)) 80 (omega arith)

module _ (r : ℕ) (log : List ℕ) where
  abbrev pub ToFree : List ℕ
  ToFree = write_all (up_from r (513 - r)) (replicate (513 - r) (zeros 80)) log

  pub free_done : 513 ≤ r → ToFree ≡ log
  unfolding up_from write_all
  free_done h = let e : 513 - r ≡ 0 = omega arith in rw e

  -- record r gets its link
  module _ (size : length log ≡ 40960) (low : 1 ≤ r) (h : r ≤ 512) (blank : Blank r log) (next : ℕ) (new : List ℕ) (w : new ≡ with_record log r (over (record_at log r) 12 2 (u16_bytes next))) where
    written : new ≡ with_record log r (over (zeros 80) 12 2 (u16_bytes next))
    written = w ∙ ap (λ (x : List ℕ). with_record log r (over x 12 2 (u16_bytes next))) (blank r (omega arith) h)

    pub free_one : next ≡ front (up_from (r + 1) (512 - r)) → ToFree ≡ write_all (up_from (r + 1) (513 - (r + 1))) (replicate (513 - (r + 1)) (zeros 80)) new
    unfolding up_from write_all
    free_one q = let e : 513 - r ≡ suc (512 - r) = omega arith in let f : 513 - (r + 1) ≡ 512 - r = omega arith in rw (e, f, written, q)

    pub blank_one : Blank (r + 1) new
    blank_one q from high = ap (λ (s : List ℕ). record_at s q) written
        ∙ record_other log size r low h _ (length_linked next (zeros 80) (length_zeros 80)) q (omega arith) (λ e. omega arith) ∙ blank q (omega arith) high

pub fresh_start : (log : List ℕ) → log ≡ zeros 40960 → fresh_log ≡ ToFree 1 log
unfolding fresh_log
fresh_start log e = rw (length_up_from 1 512, e)

pub next_last : (r : ℕ) → r ≡ 512 → 0 ≡ front (up_from (r + 1) (512 - r))
next_last r e = let z : 512 - r ≡ 0 = omega arith in sym (ap (λ k. front (up_from (r + 1) k)) z ∙ ap front (up_from_none (r + 1)) ∙ front_nil)

pub next_more : (r : ℕ) → r ≤ 512 → (r ≡ 512 → ⊥) → r + 1 ≡ front (up_from (r + 1) (512 - r))
next_more r h n = sym (front_up_from (r + 1) (512 - r) (omega arith))
