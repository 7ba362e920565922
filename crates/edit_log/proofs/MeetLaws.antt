-- The records met one after the other: what the code's parts find, by what is left.
use Prim.Native.Nat.{ℕ, zero, suc, ◌+◌, ◌-◌, ◌<◌, ◌≤◌}
use mathlib.Core.Path.{◌≡◌, refl, sym, ap, ◌∙◌}
use mathlib.Core.Bool.{Bool, true, false, not, cond, ◌&&◌, and_assoc, and-false, and-true}
use mathlib.Core.List.{List, [], ◌∷◌, ◌++◌}
use native.Mathlib.Omega.{arith}
use lib.ListN.{length, drop, drop_of_length-le, length-append}
use Rattle.std.proofs.Common.{get_or, ◌||◌, Option, None, Some, MatchOption, add-one, drop-cons}
use lib.Dec.{leb, eqb, eqb-suc-suc}
use borrow.Author.Tests.{eq-eqb, ne_eqb, le-leb, eqb-true}
use Rattle.std.proofs.lemmas.Bool.{lt-leb}
use Rattle.carts.specs.Bytes.{within, all, every}
use Rattle.carts.specs.Operation.{operation_fields}
use Rattle.carts.proofs.TestLaws.{and_left, all_at, within_low, within_high}
use Rattle.edit_log.specs.Log.{record_at, next_operation, next_transaction, chain, records_of, log_records, back}
use Rattle.edit_log.specs.Chains.{own_form, transactions_form, free_form}
use Rattle.edit_log.specs.Values.{is_left, met, met_each, all_met, are_left, operation_left, later_form, size_from, size_of, log_test, free_test}
use Rattle.edit_log.proofs.BoolLaws.{not_so, so_not, and_of, both_ways, every_and}
use Rattle.edit_log.proofs.ChainLaws.{chain_cons, chain_zero}

-- the marks, joined one after the other
every_not : (left : List Bool) (i : ℕ) → i < length left → every not (drop i left) ≡ (not (get_or left i false) && every not (drop (i + 1) left))
unfolding every
every_not left i h = rw (add-one, drop-cons left i false)

pub marks_more : (left : List Bool) (i : ℕ) (any : Bool) → i < length left → all_met left ≡ (not any && every not (drop i left))
    → all_met left ≡ (not (any || get_or left i false) && every not (drop (i + 1) left))
marks_more left i any h e = e ∙ ap (λ b. not any && b) (every_not left i h) ∙ join any (get_or left i false) (every not (drop (i + 1) left))
  where
    join : (a b c : Bool) → (not a && (not b && c)) ≡ (not (a || b) && c)
    join true b c = refl
    join false b c = refl

pub marks_end : (left : List Bool) (i : ℕ) (any : Bool) → length left ≤ i → all_met left ≡ (not any && every not (drop i left)) → not any ≡ all_met left
unfolding every
marks_end left i any h e = sym (e ∙ rw (drop_of_length-le left h, and-true))

-- one record: b is whether it is one of the 512
pub in_log : (r : ℕ) (b : Bool) → b ≡ within 1 512 r → b ≡ true → (1 ≤ r) × (r ≤ 512)
in_log r b e t = let w : within 1 512 r ≡ true = sym e ∙ t in (within_low 1 512 r w, within_high 1 512 r w)

pub meet_out : (left : List Bool) (r : ℕ) (b : Bool) → b ≡ within 1 512 r → b ≡ false → false ≡ is_left left r
unfolding is_left
meet_out left r b e t = rw (← e, t)

pub meet_is : (left : List Bool) (r : ℕ) (b : Bool) → b ≡ within 1 512 r → b ≡ true → get_or left (r - 1) false ≡ is_left left r
unfolding is_left
meet_is left r b e t = rw (← e, t)

pub left_in : (left : List Bool) (r : ℕ) → is_left left r ≡ true → (1 ≤ r) × (r ≤ 512)
unfolding is_left
left_in left r h = let w = and_left (within 1 512 r) (get_or left (r - 1) false) h in (within_low 1 512 r w, within_high 1 512 r w)

-- the same of an operation
pub operation_out : (log : List ℕ) (left : List Bool) (r : ℕ) (b : Bool) → b ≡ is_left left r → b ≡ false → false ≡ operation_left log left r
unfolding operation_left
operation_out log left r b e t = rw (← e, t)

pub operation_is : (log : List ℕ) (left : List Bool) (r : ℕ) (b : Bool) → b ≡ is_left left r → b ≡ true → operation_fields (record_at log r) ≡ operation_left log left r
unfolding operation_left
operation_is log left r b e t = rw (← e, t)

pub operation_in : (log : List ℕ) (left : List Bool) (r : ℕ) → operation_left log left r ≡ true → (1 ≤ r) × (r ≤ 512)
unfolding operation_left
operation_in log left r h = left_in left r (and_left (is_left left r) (operation_fields (record_at log r)) h)

-- a list met, and another after it
pub met_append : (left : List Bool) (xs ys : List ℕ) → met_each left (xs ++ ys) ≡ met_each (met_each left xs) ys
unfolding met_each
met_append left [] ys = refl
met_append left (x ∷ xs) ys = met_append (met left x) xs ys

pub left_append : (left : List Bool) (xs ys : List ℕ) → are_left left (xs ++ ys) ≡ (are_left left xs && are_left (met_each left xs) ys)
unfolding are_left met_each
left_append left [] ys = refl
left_append left (x ∷ xs) ys = rw (left_append (met left x) xs ys) (sym (and_assoc (is_left left x) (are_left (met left x) xs) (are_left (met_each (met left x) xs) ys)))

-- the later records of a transaction, of which n have been met
pub size_end : (n : ℕ) (log : List ℕ) (left : List Bool) (r : ℕ) → n ≤ 8 → r ≤ 0 → n ≡ size_from n log left r
unfolding size_from are_left every all
size_end n log left r h z =
    let e : r ≡ 0 = omega arith in
    let f : n + 0 ≡ n = omega arith in
    rw (e, chain_zero (9 - n) log, f, le-leb n 8 h)

size_join : (l i a f e : Bool) (x : ℕ) → cond (l && ((i && a) && ((f && e) && true))) x 0 ≡ cond (i && f) (cond (l && (a && (e && true))) x 0) 0
size_join true true a true e x = refl
size_join true true a false e x = rw (and-false a)
size_join true false a f e x = refl
size_join false true a true e x = refl
size_join false true a false e x = refl
size_join false false a f e x = refl

module _ (n : ℕ) (log : List ℕ) (left : List Bool) (r : ℕ) (h : 0 < r) where
  size_turn : n < 9 → size_from n log left r ≡ cond (is_left left r && later_form log r) (size_from (n + 1) log (met left r) (next_operation log r)) 0
  unfolding size_from are_left every all
  size_turn l =
      let rest = chain (9 - (n + 1)) log (next_operation log r) in
      let a : 9 - n ≡ suc (9 - (n + 1)) = omega arith in
      let b : n + suc (length rest) ≡ n + 1 + length rest = omega arith in
      rw (a, chain_cons (9 - (n + 1)) log r h, b)
      (size_join (leb (n + 1 + length rest) 8) (is_left left r) (are_left (met left r) rest) (later_form log r) (every (later_form log) rest) (n + 1 + length rest))

  later_split : (is_left left r && later_form log r) ≡ (operation_left log left r && eqb (next_transaction log r) 0)
  unfolding later_form operation_left
  later_split = sym (and_assoc (is_left left r) (operation_fields (record_at log r)) (eqb (next_transaction log r) 0))

  module _ (l : n < 9) where
    pub size_out : operation_left log left r ≡ false → 0 ≡ size_from n log left r
    size_out e = sym (size_turn l ∙ rw (later_split, e))

    pub size_linked : (next_transaction log r ≡ 0 → ⊥) → 0 ≡ size_from n log left r
    size_linked z = sym (size_turn l ∙ rw (later_split, ne_eqb (next_transaction log r) 0 z, and-false (operation_left log left r)))

    pub size_more : operation_left log left r ≡ true → next_transaction log r ≡ 0 → (new : List Bool) → new ≡ met left r
        → size_from n log left r ≡ size_from (n + 1) log new (next_operation log r)
    size_more e z new v = size_turn l ∙ rw (later_split, e, eq-eqb (next_transaction log r) 0 z, v)

    pub met_more : (new : List Bool) → new ≡ met left r → met_each left (chain (9 - n) log r) ≡ met_each new (chain (9 - (n + 1)) log (next_operation log r))
    unfolding met_each
    met_more new v = let a : 9 - n ≡ suc (9 - (n + 1)) = omega arith in rw (a, chain_cons (9 - (n + 1)) log r h, v)

pub size_past : (n : ℕ) (log : List ℕ) (left : List Bool) (r : ℕ) → 9 ≤ n → 0 ≡ size_from n log left r
unfolding size_from all
size_past n log left r h = let rest = chain (9 - n) log r in let z : leb (n + length rest) 8 ≡ false = lt-leb (n + length rest) 8 (omega arith) in rw z

pub met_end : (n : ℕ) (log : List ℕ) (left : List Bool) (r : ℕ) → r ≤ 0 → met_each left (chain n log r) ≡ left
unfolding met_each
met_end n log left r z = let e : r ≡ 0 = omega arith in rw (e, chain_zero n log)

-- one transaction: its first record, and the later ones
own_join : (l f s z i a : Bool) (x : ℕ) → cond ((l && ((f && s) && (z && true))) && (i && a)) x 0 ≡ cond (i && f) (cond (l && (a && ((s && z) && true))) x 0) 0
own_join true true true true true true x = refl
own_join true true true true true false x = refl
own_join true true true true false a x = refl
own_join true true true false true true x = refl
own_join true true true false true false x = refl
own_join true true true false false a x = refl
own_join true true false z true true x = refl
own_join true true false z true false x = refl
own_join true true false z false a x = refl
own_join true false s z true a x = refl
own_join true false s z false a x = refl
own_join false true s z true a x = refl
own_join false true s z false a x = refl
own_join false false s z true a x = refl
own_join false false s z false a x = refl

size_none : (log : List ℕ) (left : List Bool) → 0 ≡ size_of log left 0
unfolding size_of own_form records_of all within
size_none log left = rw (chain_zero 9 log)

size_first : (log : List ℕ) (left : List Bool) (r : ℕ) → 1 ≤ r → size_of log left r ≡ cond (operation_left log left r) (size_from 1 log (met left r) (next_operation log r)) 0
unfolding size_of size_from own_form records_of operation_left are_left every all within later_form
size_first log left r h =
    let rest = chain 8 log (next_operation log r) in
    let a : 1 + length rest ≡ suc (length rest) = omega arith in
    rw (chain_cons 8 log r h, a, le-leb 1 (suc (length rest)) (omega arith), every_and (λ q. operation_fields (record_at log q)) (λ q. eqb (next_transaction log q) 0) rest)
    (own_join (leb (suc (length rest)) 8) (operation_fields (record_at log r)) (every (λ q. operation_fields (record_at log q)) rest) (every (λ q. eqb (next_transaction log q) 0) rest) (is_left left r) (are_left (met left r) rest) (suc (length rest)))

module _ (log : List ℕ) (left : List Bool) where
  pub size_of_out : (r : ℕ) → operation_left log left r ≡ false → 0 ≡ size_of log left r
  size_of_out zero e = size_none log left
  size_of_out (suc r) e = sym (size_first log left (suc r) (omega arith) ∙ rw e)

  module _ (r : ℕ) (e : operation_left log left r ≡ true) (new : List Bool) (v : new ≡ met left r) where
    some : 1 ≤ r
    some = (operation_in log left r e).0

    pub size_of_is : size_from 1 log new (next_operation log r) ≡ size_of log left r
    size_of_is = sym (size_first log left r some ∙ rw (e, v))

    pub met_of : met_each new (chain 8 log (next_operation log r)) ≡ met_each left (records_of log r)
    unfolding records_of met_each
    met_of = sym (rw (chain_cons 8 log r some, v))

    -- what the later records give is what all of them give
    pub sized_later : (o : Option ℕ) (next : ℕ) → next ≡ next_operation log r → (newer : List Bool)
        → MatchOption o (size_from 1 log new next ≡ 0) (λ n. (1 ≤ n) × ((n ≡ size_from 1 log new next) × (newer ≡ met_each new (chain 8 log next))))
        → MatchOption o (size_of log left r ≡ 0) (λ n. (1 ≤ n) × ((n ≡ size_of log left r) × (newer ≡ met_each left (records_of log r))))
    sized_later None next u newer h = sym size_of_is ∙ rw u at h
    sized_later (Some n) next u newer h = let g = rw u at h in (g.0, (g.1.0 ∙ size_of_is, g.1.1 ∙ met_of))

-- the transactions: v is the size of the one at r
module _ (log : List ℕ) (left : List Bool) (r v : ℕ) (s : v ≡ size_of log left r) where
  own_some : own_form log (records_of log r) ≡ true → 1 ≤ length (records_of log r)
  unfolding own_form
  own_some h = within_low 1 8 _ (all_at 0 (within 1 8 (length (records_of log r)) ∷ every (λ q. operation_fields (record_at log q)) (records_of log r) ∷ every (λ q. eqb (next_transaction log q) 0) (drop 1 (records_of log r)) ∷ []) h)

  sized_not : v ≡ 0 → (own_form log (records_of log r) && are_left left (records_of log r)) ≡ false
  unfolding size_of
  sized_not z = go (own_form log (records_of log r)) (are_left left (records_of log r)) refl (sym s ∙ z)
    where
      go : (a b : Bool) → own_form log (records_of log r) ≡ a → cond (a && b) (length (records_of log r)) 0 ≡ 0 → (a && b) ≡ false
      go true true e q = let l = own_some e in absurd (omega arith)
      go true false e q = refl
      go false b e q = refl

  sized : (v ≡ 0 → ⊥) → (own_form log (records_of log r) ≡ true) × ((are_left left (records_of log r) ≡ true) × (length (records_of log r) ≡ v))
  unfolding size_of
  sized n = go (own_form log (records_of log r)) (are_left left (records_of log r)) s
    where
      go : (a b : Bool) → v ≡ cond (a && b) (length (records_of log r)) 0 → (a ≡ true) × ((b ≡ true) × (length (records_of log r) ≡ v))
      go true true q = (refl, (refl, sym q))
      go true false q = absurd (n q)
      go false b q = absurd (n q)

  pub sized_in : (v ≡ 0 → ⊥) → (1 ≤ r) × (r ≤ 512)
  unfolding records_of are_left
  sized_in n = go r (sized n)
    where
      go : (q : ℕ) → (own_form log (records_of log q) ≡ true) × ((are_left left (records_of log q) ≡ true) × (length (records_of log q) ≡ v)) → (1 ≤ q) × (q ≤ 512)
      go zero f = let e : length (chain 9 log 0) ≡ 0 = rw (chain_zero 9 log) in let l = f.1.1 in absurd (n (sym l ∙ e))
      go (suc q) f = left_in left (suc q) (and_left (is_left left (suc q)) (are_left (met left (suc q)) (chain 8 log (next_operation log (suc q)))) (rw (chain_cons 8 log (suc q) (omega arith)) at f.1.0))

  module _ (n room : ℕ) (h : 0 < n) where
    unfoldable rest : List ℕ
    rest = log_records (n - 1) log (next_transaction log r)

    unfoldable tests : List Bool
    tests = (own_form log (records_of log r) && transactions_form (n - 1) log (next_transaction log r)) ∷ eqb (length (records_of log r ++ rest)) room ∷ are_left left (records_of log r ++ rest) ∷ []

    log_turn : log_test n log left r room ≡ all tests
    unfolding log_test transactions_form log_records tests rest
    log_turn = let q : n ≡ suc (n - 1) = omega arith in ap (λ k. log_test k log left r room) q

    pub log_bad : v ≡ 0 → false ≡ log_test n log left r room
    unfolding tests
    log_bad z = sym (not_so _ no)
      where
        no : log_test n log left r room ≡ true → ⊥
        no t =
            let p : all tests ≡ true = sym log_turn ∙ t in
            let a : own_form log (records_of log r) ≡ true = and_left (own_form log (records_of log r)) (transactions_form (n - 1) log (next_transaction log r)) (all_at 0 tests p) in
            let b : are_left left (records_of log r) ≡ true = and_left (are_left left (records_of log r)) (are_left (met_each left (records_of log r)) rest) (sym (left_append left (records_of log r) rest) ∙ all_at 2 tests p) in
            so_not (own_form log (records_of log r) && are_left left (records_of log r)) (sized_not z) (and_of _ _ a b)

    module _ (k : v ≡ 0 → ⊥) where
      pub log_over : room < v → false ≡ log_test n log left r room
      unfolding tests
      log_over l = sym (not_so _ no)
        where
          no : log_test n log left r room ≡ true → ⊥
          no t =
              let p : all tests ≡ true = sym log_turn ∙ t in
              let e : length (records_of log r ++ rest) ≡ room = eqb-true _ room (all_at 1 tests p) in
              let f : length (records_of log r ++ rest) ≡ length (records_of log r) + length rest = length-append (records_of log r) rest in
              let g : length (records_of log r) ≡ v = (sized k).1.1 in
              omega arith

      module _ (next : ℕ) (u : next ≡ next_transaction log r) (new : List Bool) (w : new ≡ met_each left (records_of log r)) where
        pub log_step : v ≤ room → log_test n log left r room ≡ log_test (n - 1) log new next (room - v)
        unfolding tests rest log_test all
        log_step l = log_turn ∙ rw ((sized k).0, left_append left (records_of log r) rest, (sized k).1.0, shift, u, w)
          where
            shift : eqb (length (records_of log r ++ rest)) room ≡ eqb (length rest) (room - v)
            shift =
                let f : length (records_of log r ++ rest) ≡ length (records_of log r) + length rest = length-append (records_of log r) rest in
                let g : length (records_of log r) ≡ v = (sized k).1.1 in
                both_ways _ _ (λ e. let d = eqb-true (length (records_of log r ++ rest)) room e in eq-eqb (length rest) (room - v) (omega arith))
                (λ e. let d = eqb-true (length rest) (room - v) e in eq-eqb (length (records_of log r ++ rest)) room (omega arith))

        pub met_step : met_each left (log_records n log r) ≡ met_each new (log_records (n - 1) log next)
        unfolding log_records
        met_step =
            let q : n ≡ suc (n - 1) = omega arith in
            ap (λ k. met_each left (log_records k log r)) q ∙ met_append left (records_of log r) (log_records (n - 1) log (next_transaction log r)) ∙ rw (u, w)

pub log_done : (n : ℕ) (log : List ℕ) (left : List Bool) (r room : ℕ) → n ≤ 0 → (eqb r 0 && eqb room 0) ≡ log_test n log left r room
unfolding log_test transactions_form log_records are_left all
log_done n log left r room h =
    let e : n ≡ 0 = omega arith in
    rw (e, and-true) (ap (λ b. eqb r 0 && b) (both_ways (eqb room 0) (eqb 0 room) (λ e. eq-eqb 0 room (sym (eqb-true room 0 e))) (λ e. eq-eqb room 0 (sym (eqb-true 0 room e)))))

pub met_none : (n : ℕ) (log : List ℕ) (left : List Bool) (r : ℕ) → n ≤ 0 → met_each left (log_records n log r) ≡ left
unfolding log_records met_each
met_none n log left r h = let e : n ≡ 0 = omega arith in rw e

-- the free chain: `many` records are still to be met, the first at r
free_join : (l i a f e x : Bool) → (l && ((i && a) && ((f && e) && (x && true)))) ≡ ((i && f) && (l && (a && (e && (x && true)))))
free_join true true a true e x = refl
free_join true true a false e x = and-false a
free_join true false a f e x = refl
free_join false true a true e x = refl
free_join false true a false e x = refl
free_join false false a f e x = refl

module _ (log : List ℕ) (left : List Bool) (d : ℕ) where
  free_turn : (many r before last : ℕ) → 1 ≤ r → free_test log left (chain (suc many + d) log r) (suc many) before last
      ≡ ((is_left left r && free_form (record_at log r)) && free_test log (met left r) (chain (many + d) log (next_operation log r)) many r last)
  unfolding free_test are_left every back all
  free_turn many r before last h =
      let rest = chain (many + d) log (next_operation log r) in
      let a : suc many + d ≡ suc (many + d) = omega arith in
      rw (a, chain_cons (many + d) log r h, eqb-suc-suc (length rest) many)
      (free_join (eqb (length rest) many) (is_left left r) (are_left (met left r) rest) (free_form (record_at log r)) (every (λ q. free_form (record_at log q)) rest) (eqb (back r rest) last))

  free_none : (many before last : ℕ) → free_test log left (chain (suc many + d) log 0) (suc many) before last ≡ false
  unfolding free_test all
  free_none many before last = let z : 0 ≡ suc many → ⊥ = λ q. omega arith in rw (chain_zero (suc many + d) log, ne_eqb 0 (suc many) z)

  module _ (many r before last : ℕ) (h : 0 < many) (b : Bool) (e : b ≡ is_left left r) where
    fewer : many ≡ suc (many - 1)
    fewer = omega arith

    pub free_out : b ≡ false → false ≡ free_test log left (chain (many + d) log r) many before last
    free_out t = sym (ap (λ k. free_test log left (chain (k + d) log r) k before last) fewer ∙ go r (sym e ∙ t))
      where
        go : (q : ℕ) → is_left left q ≡ false → free_test log left (chain (suc (many - 1) + d) log q) (suc (many - 1)) before last ≡ false
        go zero f = free_none (many - 1) before last
        go (suc q) f = free_turn (many - 1) (suc q) before last (omega arith) ∙ rw f

    module _ (t : b ≡ true) (c : Bool) (g : c ≡ free_form (record_at log r)) where
      by_first : free_test log left (chain (many + d) log r) many before last ≡ (c && free_test log (met left r) (chain (many - 1 + d) log (next_operation log r)) (many - 1) r last)
      by_first =
          let i : is_left left r ≡ true = sym e ∙ t in
          ap (λ k. free_test log left (chain (k + d) log r) k before last) fewer ∙ free_turn (many - 1) r before last (left_in left r i).0 ∙ rw (i, ← g)

      pub free_bad : c ≡ false → false ≡ free_test log left (chain (many + d) log r) many before last
      free_bad z = sym (by_first ∙ rw (z))

      module _ (next : ℕ) (u : next ≡ next_operation log r) (new : List Bool) (w : new ≡ met left r) where
        pub free_step : c ≡ true → free_test log left (chain (many + d) log r) many before last ≡ free_test log new (chain (many - 1 + d) log next) (many - 1) r last
        free_step z = by_first ∙ rw (z, u, w)

        pub met_free : met_each left (chain (many + d) log r) ≡ met_each new (chain (many - 1 + d) log next)
        unfolding met_each
        met_free =
            let a : many + d ≡ suc (many - 1 + d) = omega arith in
            rw (a, chain_cons (many - 1 + d) log r (left_in left r (sym e ∙ t)).0, u, w)

  pub free_done : (many r before last : ℕ) → many ≤ 0 → 0 < d → (eqb r 0 && eqb before last) ≡ free_test log left (chain (many + d) log r) many before last
  unfolding free_test are_left every back all
  free_done many r before last h l = let z : many ≡ 0 = omega arith in let k : 0 + d ≡ suc (d - 1) = omega arith in rw (z, k) (go r)
    where
      go : (q : ℕ) → (eqb q 0 && eqb before last)
          ≡ (eqb (length (chain (suc (d - 1)) log q)) 0 && (are_left left (chain (suc (d - 1)) log q) && (every (λ x. free_form (record_at log x)) (chain (suc (d - 1)) log q) && (eqb (back before (chain (suc (d - 1)) log q)) last && true))))
      go zero = rw (chain_zero (suc (d - 1)) log, and-true)
      go (suc q) =
          let n : suc (length (chain (d - 1) log (next_operation log (suc q)))) ≡ 0 → ⊥ = λ e. omega arith in
          let m : suc q ≡ 0 → ⊥ = λ e. omega arith in
          rw (chain_cons (d - 1) log (suc q) (omega arith), ne_eqb _ 0 n, ne_eqb (suc q) 0 m)

pub ends : (r : ℕ) (b : Bool) → (eqb r 0 && b) ≡ true → r ≤ 0
ends r b z = let e = eqb-true r 0 (and_left (eqb r 0) b z) in omega arith
