-- Every record in exactly one chain: by the marks, by what occurs in a list, and for lists that are joined.
use Prim.Native.Nat.{ℕ, zero, suc, ◌+◌, ◌-◌, ◌<◌, ◌≤◌}
use mathlib.Core.Path.{◌≡◌, refl, sym, ap, ◌∙◌}
use mathlib.Core.Bool.{Bool, true, false, not, cond, ◌&&◌}
use mathlib.Core.List.{List, [], ◌∷◌, ◌++◌}
use native.Mathlib.Omega.{arith}
use native.Mathlib.Decide.{ℕ_discrete}
use lib.ListN.{length, replicate, length-set, length-replicate, get_or-replicate}
use Rattle.std.proofs.Common.{get_or}
use lib.Seq.{get_or-set_same, get_or-set_other}
use lib.Dec.{eqb}
use borrow.Author.Tests.{eq-eqb, ne_eqb, eqb-true, not-true}
use Rattle.carts.specs.Bytes.{within, every}
use Rattle.carts.proofs.TestLaws.{and_left, and_right, all_at, all_cons, all_nil, within_low, within_high, within_of, every_at, at_every}
use Rattle.edit_log.specs.Log.{up_from}
use Rattle.edit_log.specs.Chains.{count, once_each}
use Rattle.edit_log.specs.Values.{is_left, met, met_each, all_met, are_left}
use Rattle.edit_log.proofs.BoolLaws.{both_ways, and_of}

-- how often a record occurs in one list before another
pub count_append : (r : ℕ) (xs ys : List ℕ) → count r (xs ++ ys) ≡ count r xs + count r ys
unfolding count
count_append r [] ys = omega arith
count_append r (x ∷ xs) ys = let rec = count_append r xs ys in omega arith

pub count_nil : (r : ℕ) → count r [] ≡ 0
unfolding count
count_nil r = refl

pub count_here : (r : ℕ) (xs : List ℕ) → count r (r ∷ xs) ≡ 1 + count r xs
unfolding count
count_here r xs = rw (eq-eqb r r refl)

pub count_other : (r x : ℕ) (xs : List ℕ) → (x ≡ r → ⊥) → count r (x ∷ xs) ≡ count r xs
unfolding count
count_other r x xs n = rw (ne_eqb x r n) (omega arith)

-- a record that occurs passes what each passes
pub every_in : (p : ℕ → Bool) (xs : List ℕ) (r : ℕ) → every p xs ≡ true → 1 ≤ count r xs → p r ≡ true
unfolding every
every_in p [] r h l = let e = count_nil r in let z : ⊥ = omega arith in absurd z
every_in p (x ∷ xs) r h l = go (every_in p xs r (and_right (p x) (every p xs) h)) (ℕ_discrete x r)
  where
    go : (1 ≤ count r xs → p r ≡ true) → Dec (x ≡ r) → p r ≡ true
    go rec (yes e) = ap p (sym e) ∙ and_left (p x) (every p xs) h
    go rec (no n) = let e = count_other r x xs n in rec (omega arith)

-- r, r + 1, .. pass where each of them does, and the other way round
pub every_up_from : (p : ℕ → Bool) (r n : ℕ) → every p (up_from r n) ≡ true → (q : ℕ) → r ≤ q → q < r + n → p q ≡ true
unfolding up_from every
every_up_from p r zero h q l g = let z : ⊥ = omega arith in absurd z
every_up_from p r (suc n) h q l g = go (every_up_from p (r + 1) n (and_right (p r) (every p (up_from (r + 1) n)) h) q) (ℕ_discrete q r)
  where
    go : (r + 1 ≤ q → q < r + 1 + n → p q ≡ true) → Dec (q ≡ r) → p q ≡ true
    go rec (yes e) = ap p e ∙ and_left (p r) (every p (up_from (r + 1) n)) h
    go rec (no e) = rec (omega arith) (omega arith)

pub up_from_every : (p : ℕ → Bool) (r n : ℕ) → ((q : ℕ) → r ≤ q → q < r + n → p q ≡ true) → every p (up_from r n) ≡ true
unfolding up_from every
up_from_every p r zero f = refl
up_from_every p r (suc n) f = rw (f r (omega arith) (omega arith)) (up_from_every p (r + 1) n (λ q l g. f q (omega arith) (omega arith)))

-- what the test says
pub record Once (rs : List ℕ) : Type 0 where
  pub inside : every (within 1 512) rs ≡ true
  pub once : (r : ℕ) → 1 ≤ r → r ≤ 512 → count r rs ≡ 1

pub once_of : (rs : List ℕ) → once_each rs ≡ true → Once rs
unfolding once_each
once_of rs h = record { inside = all_at 0 tests h; once = λ r a b. eqb-true (count r rs) 1 (every_up_from (λ r. eqb (count r rs) 1) 1 512 (all_at 1 tests h) r a (omega arith)) }
  where
    tests : List Bool
    tests = every (within 1 512) rs ∷ every (λ r. eqb (count r rs) 1) (up_from 1 512) ∷ []

pub of_once : (rs : List ℕ) → Once rs → once_each rs ≡ true
unfolding once_each
of_once rs o = all_cons _ _ o.inside (all_cons _ _ (up_from_every (λ r. eqb (count r rs) 1) 1 512 (λ r a b. eq-eqb (count r rs) 1 (o.once r a (omega arith)))) all_nil)

-- what is left of each record is how often it occurs in the rest
abbrev owes : List Bool → ℕ → ℕ
owes left i = cond (get_or left i false) 1 0

abbrev Owed : List Bool → List ℕ → Type 0
Owed left rs = (q : ℕ) → 1 ≤ q → q ≤ 512 → count q rs ≡ owes left (q - 1)

zero_at : (left : List Bool) (i : ℕ) → all_met left ≡ true → i < length left → owes left i ≡ 0
unfolding all_met
zero_at left i h l = rw (not-true (get_or left i false) (every_at not left false i h l))

at_zero : (left : List Bool) (i : ℕ) → owes left i ≡ 0 → not (get_or left i false) ≡ true
at_zero left i h = go (get_or left i false) h
  where
    go : (b : Bool) → ◌≡◌ {A = ℕ} (cond b 1 0) 0 → not b ≡ true
    go true e = let z : ⊥ = omega arith in absurd z
    go false e = refl

at_one : (left : List Bool) (i : ℕ) → owes left i ≡ 1 → get_or left i false ≡ true
at_one left i h = go (get_or left i false) h
  where
    go : (b : Bool) → ◌≡◌ {A = ℕ} (cond b 1 0) 1 → b ≡ true
    go true e = refl
    go false e = let z : ⊥ = omega arith in absurd z

met_same : (left : List Bool) (r : ℕ) → length left ≡ 512 → 1 ≤ r → r ≤ 512 → owes (met left r) (r - 1) ≡ 0
unfolding met
met_same left r n a b = rw (get_or-set_same left (r - 1) false false (omega arith))

met_other : (left : List Bool) (r q : ℕ) → 1 ≤ r → 1 ≤ q → (r ≡ q → ⊥) → owes (met left r) (q - 1) ≡ owes left (q - 1)
unfolding met
met_other left r q a b n = ap (λ x. cond x 1 0) (get_or-set_other left (r - 1) (q - 1) false false (λ e. n (omega arith)))

length_met : (left : List Bool) (r : ℕ) → length left ≡ 512 → length (met left r) ≡ 512
unfolding met
length_met left r n = length-set left (r - 1) false ∙ n

left_parts : (left : List Bool) (r : ℕ) → is_left left r ≡ true → ((1 ≤ r) × (r ≤ 512)) × (owes left (r - 1) ≡ 1)
unfolding is_left
left_parts left r h =
    let w = and_left (within 1 512 r) (get_or left (r - 1) false) h in
    ((within_low 1 512 r w, within_high 1 512 r w), rw (and_right (within 1 512 r) (get_or left (r - 1) false) h))

of_left : (left : List Bool) (r : ℕ) → within 1 512 r ≡ true → owes left (r - 1) ≡ 1 → is_left left r ≡ true
unfolding is_left
of_left left r w e = and_of _ _ w (at_one left (r - 1) e)

-- all are met, each when it was left
owed : (left : List Bool) (rs : List ℕ) → length left ≡ 512 → are_left left rs ≡ true → all_met (met_each left rs) ≡ true → (every (within 1 512) rs ≡ true) × Owed left rs
unfolding are_left met_each every count
owed left [] n h z = (refl, λ q a b. sym (zero_at left (q - 1) z (omega arith)))
owed left (r ∷ rs) n h z =
    let here = left_parts left r (and_left (is_left left r) (are_left (met left r) rs) h) in
    let rec = owed (met left r) rs (length_met left r n) (and_right (is_left left r) (are_left (met left r) rs) h) z in
    (and_of _ _ (within_of 1 512 r here.0.0 here.0.1) rec.0, λ q a b. go here rec.1 q a b (ℕ_discrete r q))
  where
    go : ((1 ≤ r) × (r ≤ 512)) × (owes left (r - 1) ≡ 1) → Owed (met left r) rs → (q : ℕ) → 1 ≤ q → q ≤ 512 → Dec (r ≡ q) → count q (r ∷ rs) ≡ owes left (q - 1)
    go here f q a b (yes e) =
        let x = f r here.0.0 here.0.1 in
        let y = met_same left r n here.0.0 here.0.1 in
        let w = here.1 in
        let c = count_here r rs in
        ap (λ k. count k (r ∷ rs)) (sym e) ∙ (let d : count r (r ∷ rs) ≡ owes left (r - 1) = omega arith in d) ∙ ap (λ k. owes left (k - 1)) e
    go here f q a b (no e) = count_other q r rs e ∙ f q a b ∙ met_other left r q here.0.0 a e

-- and the other way round, where nothing is owed more than once
of_owed : (left : List Bool) (rs : List ℕ) → length left ≡ 512 → ((q : ℕ) → 1 ≤ q → q ≤ 512 → owes left (q - 1) ≤ 1) → every (within 1 512) rs ≡ true → Owed left rs
    → (are_left left rs ≡ true) × (all_met (met_each left rs) ≡ true)
unfolding are_left met_each every all_met
of_owed left [] n s h f = (refl, at_every not left false (λ i l. at_zero left i (zero_here i l)))
  where
    zero_here : (i : ℕ) → i < length left → owes left i ≡ 0
    zero_here i l =
        let e : suc i - 1 ≡ i = omega arith in
        ap (λ k. owes left k) (sym e) ∙ sym (f (suc i) (omega arith) (omega arith)) ∙ count_nil (suc i)
of_owed left (r ∷ rs) n s h f =
    let w = and_left (within 1 512 r) (every (within 1 512) rs) h in
    let low = within_low 1 512 r w in
    let high = within_high 1 512 r w in
    let c = count_here r rs in
    let d = f r low high in
    let e = s r low high in
    let one : owes left (r - 1) ≡ 1 = omega arith in
    let none : count r rs ≡ 0 = omega arith in
    let same = met_same left r n low high in
    let rec = of_owed (met left r) rs (length_met left r n) (λ q a b. small low same q a b (ℕ_discrete r q)) (and_right (within 1 512 r) (every (within 1 512) rs) h) (λ q a b. rest low none same q a b (ℕ_discrete r q)) in
    (and_of _ _ (of_left left r w one) rec.0, rec.1)
  where
    small : 1 ≤ r → owes (met left r) (r - 1) ≡ 0 → (q : ℕ) → 1 ≤ q → q ≤ 512 → Dec (r ≡ q) → owes (met left r) (q - 1) ≤ 1
    small low same q a b (yes e) = rw (← e, same) (omega arith)
    small low same q a b (no e) = rw (met_other left r q low a e) (s q a b)

    rest : 1 ≤ r → count r rs ≡ 0 → owes (met left r) (r - 1) ≡ 0 → (q : ℕ) → 1 ≤ q → q ≤ 512 → Dec (r ≡ q) → count q rs ≡ owes (met left r) (q - 1)
    rest low none same q a b (yes e) = rw (← e) (none ∙ sym same)
    rest low none same q a b (no e) = sym (count_other q r rs e) ∙ f q a b ∙ sym (met_other left r q low a e)

-- the marks at the start: each record once
pub once_left : (rs : List ℕ) → once_each rs ≡ (are_left (replicate 512 true) rs && all_met (met_each (replicate 512 true) rs))
once_left rs = both_ways _ _ there back
  where
    ones : List Bool
    ones = replicate 512 true

    many : length ones ≡ 512
    many = length-replicate {A = Bool} 512 true

    one : (q : ℕ) → 1 ≤ q → q ≤ 512 → owes ones (q - 1) ≡ 1
    one q a b = rw (get_or-replicate 512 (q - 1) true false (omega arith))

    there : once_each rs ≡ true → (are_left ones rs && all_met (met_each ones rs)) ≡ true
    there h =
        let o = once_of rs h in
        let p = of_owed ones rs many (λ q a b. rw (one q a b) (omega arith)) o.inside (λ q a b. o.once q a b ∙ sym (one q a b)) in
        and_of _ _ p.0 p.1

    back : (are_left ones rs && all_met (met_each ones rs)) ≡ true → once_each rs ≡ true
    back h =
        let p = owed ones rs many (and_left (are_left ones rs) (all_met (met_each ones rs)) h) (and_right (are_left ones rs) (all_met (met_each ones rs)) h) in
        of_once rs (record { inside = p.0; once = λ q a b. p.1 q a b ∙ one q a b })
