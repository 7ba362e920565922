-- A cart's state after operations, told from its state before them: new makes it held, withdraw makes it empty, whatever it was.
use Prim.Native.Nat.{ℕ, zero, suc, ◌+◌, ◌*◌, ◌/◌, ◌≤◌, ◌<◌}
use mathlib.Core.Path.{◌≡◌, refl, sym, ap, ◌∙◌}
use mathlib.Core.Bool.{Bool, true, false, not, cond}
use mathlib.Core.List.{List, [], ◌∷◌}
use native.Mathlib.Numerals.{add-one}
use native.Mathlib.Omega.{arith}
use lib.Dec.{eqb}
use lib.ListN.{length, take, drop}
use borrow.Author.Tests.{eqb-true, eqb-false, ne_eqb}
use Rattle.carts.specs.Bytes.{byte, u16, zeros, parts, every}
use Rattle.carts.specs.Cart.{cart_at, held}
use Rattle.carts.specs.Operation.{is_new, is_retitle, is_recut, is_withdraw, operation_fields, operations_of, made, retitled, recut, meets_cart, effect, acted_on, meets, act, act_all}
use Rattle.carts.proofs.TestLaws.{and_left, and_right}
use Rattle.carts.proofs.CartLaws.{length_cart}
use Rattle.carts.proofs.PartLaws.{length_part}
use Rattle.carts.proofs.EachLaws.{next_part}
use Rattle.carts.proofs.RecordLaws.{sized_parts}
use Rattle.carts.proofs.OperationLaws.{fields_cart, fields_at, length_act_all}
use Rattle.carts.proofs.KeepLaws.{act_named, act_other}

-- the state of the cart that an operation names, after it; and that of cart c
abbrev pub named_then : List ℕ → Bool → Bool
named_then op h = cond (is_new (byte op 0)) true (cond (is_withdraw (byte op 0)) false h)

abbrev pub held_then : List ℕ → ℕ → Bool → Bool
held_then op c h = cond (eqb (u16 op 2) c) (named_then op h) h

-- new, retitle, re-cut, withdraw and none of these, by the states that they leave
by_kind : (n h k₂ k₃ k₄ : Bool) (m r u w s : List ℕ) → held s ≡ h → held m ≡ true → held r ≡ held s → held u ≡ held s → held w ≡ false
    → (k₂ ≡ true → k₄ ≡ false) → (k₃ ≡ true → k₄ ≡ false)
    → held (cond (cond n (not h) h) (cond n m (cond k₂ r (cond k₃ u (cond k₄ w s)))) s) ≡ cond n true (cond k₄ false h)
by_kind true true k₂ k₃ k₄ m r u w s e p q t z f g = e
by_kind true false k₂ k₃ k₄ m r u w s e p q t z f g = p
by_kind false true true k₃ k₄ m r u w s e p q t z f g = rw (f refl) (q ∙ e)
by_kind false true false true k₄ m r u w s e p q t z f g = rw (g refl) (t ∙ e)
by_kind false true false false true m r u w s e p q t z f g = z
by_kind false true false false false m r u w s e p q t z f g = e
by_kind false false k₂ k₃ true m r u w s e p q t z f g = e
by_kind false false k₂ k₃ false m r u w s e p q t z f g = e

not_withdraw : (k n : ℕ) → n < 4 → eqb k n ≡ true → is_withdraw k ≡ false
not_withdraw k n h e = let q : k ≡ n = eqb-true k n e in ne_eqb k 4 (λ r. omega arith)

acted_held : (op cart : List ℕ) → length cart ≡ 80 → held (acted_on op cart) ≡ named_then op (held cart)
unfolding acted_on meets_cart effect held made retitled recut zeros
acted_held op [] l = absurd (omega arith)
acted_held op (x ∷ s) l =
    let k = byte op 0 in
    by_kind (is_new k) (held (x ∷ s)) (is_retitle k) (is_recut k) (is_withdraw k) (made op (x ∷ s)) (retitled op (x ∷ s)) (recut op (x ∷ s)) (zeros 80) (x ∷ s)
    refl refl refl refl refl (not_withdraw k 2 (omega arith)) (not_withdraw k 3 (omega arith))

-- after one operation
act_held : (copy op : List ℕ) → length copy ≡ 10240 → length op ≡ 80 → 1 ≤ u16 op 2 → u16 op 2 ≤ 128
    → (c : ℕ) → 1 ≤ c → held (cart_at (act copy op) c) ≡ held_then op c (held (cart_at copy c))
act_held copy op l o low high c h = pick (eqb (u16 op 2) c) refl
  where
    pick : (b : Bool) → eqb (u16 op 2) c ≡ b → held (cart_at (act copy op) c) ≡ cond b (named_then op (held (cart_at copy c))) (held (cart_at copy c))
    pick true q =
        let n : c ≡ u16 op 2 = sym (eqb-true (u16 op 2) c q) in
        rw (n, act_named copy op l o low high) (acted_held op (cart_at copy (u16 op 2)) (length_cart copy (u16 op 2) l high))
    pick false q = ap held (act_other copy op l o low high c h (λ e. eqb-false (u16 op 2) c q (sym e)))

-- an operation meets its cart by the cart's state alone
pub meets_state : (copy op : List ℕ) (c : ℕ) {h r : Bool} → c ≡ u16 op 2 → h ≡ held (cart_at copy c) → r ≡ cond (is_new (byte op 0)) (not h) h → r ≡ meets copy op
unfolding meets meets_cart
meets_state copy op c n e q = rw (← n, ← e) q

-- the first operations: their fields, and one more of them
fields_first : (i n : ℕ) (s : List ℕ) → i ≤ n → every operation_fields (parts 80 n s) ≡ true → every operation_fields (parts 80 i s) ≡ true
unfolding every parts
fields_first zero n s h e = refl
fields_first (suc i) zero s h e = absurd (omega arith)
fields_first (suc i) (suc n) s h e =
    let first = operation_fields (take 80 s) in
    let rest = every operation_fields (parts 80 n (drop 80 s)) in
    rw (and_left first rest e, fields_first i n (drop 80 s) (omega arith) (and_right first rest e))

act_suc : (i : ℕ) (copy s : List ℕ) → act_all copy (parts 80 (suc i) s) ≡ act (act_all copy (parts 80 i s)) (take 80 (drop (80 * i) s))
unfolding act_all parts
act_suc zero copy s = refl
act_suc (suc i) copy s =
    act_suc i (act copy (take 80 s)) (drop 80 s) ∙ ap (λ op. act (act_all (act copy (take 80 s)) (parts 80 i (drop 80 s))) op) (next_part 80 i s)

pub act_last : (i : ℕ) (copy s : List ℕ) → act_all copy (parts 80 (i + 1) s) ≡ act (act_all copy (parts 80 i s)) (take 80 (drop (80 * i) s))
act_last i copy s = rw add-one (act_suc i copy s)

pub act_none : (copy s : List ℕ) → act_all copy (parts 80 0 s) ≡ copy
unfolding act_all parts
act_none copy s = refl

-- after the first i operations of a commit, and after one more
module _ (copy ops : List ℕ) (l : length copy ≡ 10240) (f : every operation_fields (operations_of ops) ≡ true) (i : ℕ) (h : i < length ops / 80) where
  pub operation_here : (length (take 80 (drop (80 * i) ops)) ≡ 80) × ((1 ≤ u16 (take 80 (drop (80 * i) ops)) 2) × (u16 (take 80 (drop (80 * i) ops)) 2 ≤ 128))
  operation_here = (length_part ops (80 * i) 80 (omega arith), fields_cart (take 80 (drop (80 * i) ops)) (fields_at ops f i h))

  pub held_more : (c : ℕ) → 1 ≤ c → held (cart_at (act_all copy (parts 80 (i + 1) ops)) c) ≡ held_then (take 80 (drop (80 * i) ops)) c (held (cart_at (act_all copy (parts 80 i ops)) c))
  unfolding operations_of
  held_more c low =
      let o = operation_here in
      let size = length_act_all (parts 80 i ops) copy l (record { sizes = sized_parts 80 i ops (omega arith); fields = fields_first i (length ops / 80) ops (omega arith) f }) in
      ap (λ s. held (cart_at s c)) (act_last i copy ops) ∙ act_held (act_all copy (parts 80 i ops)) (take 80 (drop (80 * i) ops)) size o.0 o.1.0 o.1.1 c low
