-- Laws of the sentences of refusals.
use Rattle.std.proofs.Common.{◌≡◌, ℕ, zero, suc, ◌<◌, ◌≤◌, false, eqb, refl, arith, ne_eqb}
use Rattle.lines.specs.Words.{bytes_of}
use Rattle.refusals.specs.Sentences.{refusal_sentence}

-- there is no refusal 24 or above
pub no_refusal : (n : ℕ) → 24 ≤ n → refusal_sentence n ≡ bytes_of "unknown"
unfolding refusal_sentence
no_refusal n h = rw (other 1 (omega arith), other 2 (omega arith), other 3 (omega arith), other 4 (omega arith), other 5 (omega arith), other 6 (omega arith), other 7 (omega arith), other 8 (omega arith), other 9 (omega arith), other 10 (omega arith), other 11 (omega arith), other 12 (omega arith), other 13 (omega arith), other 14 (omega arith), other 15 (omega arith), other 16 (omega arith), other 17 (omega arith), other 18 (omega arith), other 19 (omega arith), other 20 (omega arith), other 21 (omega arith)) refl
  where
    other : (i : ℕ) → i < 24 → eqb n i ≡ false
    other i l = ne_eqb n i (λ e. omega arith)

-- nor a refusal 0: a number that no row has is not known
pub no_row : (n : ℕ) → (1 ≤ n → 23 < n) → refusal_sentence n ≡ bytes_of "unknown"
unfolding refusal_sentence
no_row zero h = refl
no_row (suc n) h = no_refusal (suc n) (h (omega arith))
