-- Laws of a loop over a `zip` of a list and the numbers from 0 on.
use Rattle.std.proofs.Common.{◌≡◌, ℕ, ◌<◌, List, length, get_or, min, Option, Some, None, ap, ◌∙◌, arith}
use Rattle.std.proofs.lemmas.Iterator.{YieldsList}
use Rattle.std.proofs.lemmas.Iterator.Consumers.{YieldsList-turn, YieldsList-end}
use Rattle.std.proofs.lemmas.List.{get_or_default}
use Rattle.std.proofs.lemmas.List.FromFn.{length-range_with_len, get_or-range_with_len}
use Rattle.std.proofs.lemmas.Slice.Zip.{length-zip, get_or-zip}
use Rattle.std.specs.Iterator.{Yields}
use Rattle.std.specs.List.{range_with_len, zip}

module _ {S A : Type 0} {steps : S → Option A → S → Type 0} {v : A → ℕ × ℕ} {s : S} (ks : List ℕ) (m : ℕ)
    (e : YieldsList steps v s (zip ks (range_with_len 0 m))) (xs : List A) (t : S) (y : Yields steps s xs t) (r : Option A) (u : S) where
  -- a turn: the element at the index, and the index
  pub index_turn : (x : A) → r ≡ Some x → steps t r u → (length xs < length ks) × ((v x).0 ≡ get_or ks (length xs) 0) × ((v x).1 ≡ length xs)
  index_turn x q h =
      let k = YieldsList-turn e xs t y r u x q h in
      let n : length xs < min (length ks) m = omega (arith, k.0, length-zip ks (range_with_len 0 m), length-range_with_len 0 m) in
      let w : length xs < length (range_with_len 0 m) = omega (arith, length-range_with_len 0 m) in
      let l : length xs < length ks = omega arith in
      let p = k.1 ∙ get_or-zip ks (range_with_len 0 m) (length xs) (v x) l w in
      let i : get_or (range_with_len 0 m) (length xs) (v x).1 ≡ length xs = omega (arith, get_or-range_with_len 0 m (length xs) (v x).1) in
      (l, ap (λ q. q.0) p ∙ get_or_default ks (length xs) (v x).0 0 l, ap (λ q. q.1) p ∙ i)

  pub index_end : r ≡ None → steps t r u → length xs ≡ min (length ks) m
  index_end q h =
      let k = YieldsList-end e xs t y r u q h in
      omega (arith, k.1, length-zip ks (range_with_len 0 m), length-range_with_len 0 m)
