-- The whole test of the two chains, from what the two passes find.
use Prim.Native.Nat.{ℕ, ◌+◌, ◌-◌, ◌<◌, ◌≤◌}
use mathlib.Core.Path.{◌≡◌, sym, ◌∙◌}
use mathlib.Core.Bool.{Bool, true, false, ◌&&◌}
use mathlib.Core.List.{List, [], ◌∷◌, ◌++◌}
use native.Mathlib.Omega.{arith}
use lib.ListN.{length, replicate}
use lib.Dec.{eqb}
use borrow.Author.Tests.{eq-eqb, eqb-true}
use Rattle.carts.specs.Bytes.{all, every}
use Rattle.carts.proofs.TestLaws.{and_left, and_right, all_at, all_cons, all_nil}
use Rattle.edit_log.specs.Log.{record_at, log_records, free_records, back}
use Rattle.edit_log.specs.Chains.{transactions_form, free_form, once_each, chains_form}
use Rattle.edit_log.specs.Values.{met_each, all_met, are_left, log_test, free_test}
use Rattle.edit_log.proofs.BoolLaws.{not_so, both_ways, and_of}
use Rattle.edit_log.proofs.MeetLaws.{met_append, left_append}
use Rattle.edit_log.proofs.OnceLaws.{once_left}

module _ (n : ℕ) (log : List ℕ) (used oldest first last : ℕ) where
  abbrev own : List ℕ
  own = log_records n log oldest

  abbrev free : List ℕ
  free = free_records log first

  abbrev pub chains_tests : List Bool
  chains_tests =
      transactions_form n log oldest
      ∷ eqb (length own) used
      ∷ eqb (used + length free) 512
      ∷ every (λ r. free_form (record_at log r)) free
      ∷ eqb (back 0 free) last
      ∷ once_each (own ++ free)
      ∷ []

  abbrev ones : List Bool
  ones = replicate 512 true

  abbrev left : List Bool
  left = met_each ones own

  -- the two lists, one after the other
  once_both : once_each (own ++ free) ≡ ((are_left ones own && are_left left free) && all_met (met_each left free))
  once_both = once_left (own ++ free) ∙ rw (left_append ones own free, met_append ones own free)

  passes : used ≤ 512 → chains_form n log used oldest first last ≡ (log_test n log ones oldest used && (free_test log left free (512 - used) 0 last && all_met (met_each left free)))
  unfolding chains_form log_test free_test
  passes u = both_ways _ _ there around
    where
      log_tests : List Bool
      log_tests = transactions_form n log oldest ∷ eqb (length own) used ∷ are_left ones own ∷ []

      free_tests : List Bool
      free_tests = eqb (length free) (512 - used) ∷ are_left left free ∷ every (λ r. free_form (record_at log r)) free ∷ eqb (back 0 free) last ∷ []

      there : all chains_tests ≡ true → (all log_tests && (all free_tests && all_met (met_each left free))) ≡ true
      there h =
          let o : ((are_left ones own && are_left left free) && all_met (met_each left free)) ≡ true = sym once_both ∙ all_at 5 chains_tests h in
          let p = and_left (are_left ones own && are_left left free) (all_met (met_each left free)) o in
          let e = eqb-true (used + length free) 512 (all_at 2 chains_tests h) in
          and_of _ _ (all_cons _ _ (all_at 0 chains_tests h) (all_cons _ _ (all_at 1 chains_tests h) (all_cons _ _ (and_left (are_left ones own) (are_left left free) p) all_nil)))
          (and_of _ _ (all_cons _ _ (eq-eqb (length free) (512 - used) (omega arith)) (all_cons _ _ (and_right (are_left ones own) (are_left left free) p) (all_cons _ _ (all_at 3 chains_tests h) (all_cons _ _ (all_at 4 chains_tests h) all_nil))))
          (and_right (are_left ones own && are_left left free) (all_met (met_each left free)) o))

      around : (all log_tests && (all free_tests && all_met (met_each left free))) ≡ true → all chains_tests ≡ true
      around h =
          let a = and_left (all log_tests) (all free_tests && all_met (met_each left free)) h in
          let b = and_right (all log_tests) (all free_tests && all_met (met_each left free)) h in
          let f = and_left (all free_tests) (all_met (met_each left free)) b in
          let e = eqb-true (length free) (512 - used) (all_at 0 free_tests f) in
          let o : once_each (own ++ free) ≡ true = once_both ∙ and_of _ _ (and_of _ _ (all_at 2 log_tests a) (all_at 1 free_tests f)) (and_right (all free_tests) (all_met (met_each left free)) b) in
          all_cons _ _ (all_at 0 log_tests a) (all_cons _ _ (all_at 1 log_tests a) (all_cons _ _ (eq-eqb (used + length free) 512 (omega arith))
          (all_cons _ _ (all_at 2 free_tests f) (all_cons _ _ (all_at 3 free_tests f) (all_cons _ _ o all_nil)))))

  pub chains_many : 512 < used → false ≡ chains_form n log used oldest first last
  unfolding chains_form
  chains_many l = sym (not_so (all chains_tests) no)
    where
      no : all chains_tests ≡ true → ⊥
      no h = let e = eqb-true (used + length free) 512 (all_at 2 chains_tests h) in omega arith

  module _ (u : used ≤ 512) (b : Bool) (e : b ≡ log_test n log ones oldest used) where
    pub chains_log : b ≡ false → false ≡ chains_form n log used oldest first last
    chains_log t = sym (passes u ∙ rw (← e, t))

    module _ (t : b ≡ true) (new : List Bool) (w : new ≡ left) (c : Bool) (g : c ≡ free_test log new free (512 - used) 0 last) where
      by_free : chains_form n log used oldest first last ≡ (c && all_met (met_each left free))
      by_free = passes u ∙ rw (← e, t, ← w, ← g)

      pub chains_free : c ≡ false → false ≡ chains_form n log used oldest first last
      chains_free z = sym (by_free ∙ rw (z))

      pub chains_is : c ≡ true → (newer : List Bool) → newer ≡ met_each new free → all_met newer ≡ chains_form n log used oldest first last
      chains_is z newer q = sym (by_free ∙ rw (z, q, w))
