-- Titles that differ by a space (02, S-2): operations without one leave none in a copy that has none. `spaced` is asked of carts too: byte 0 of a held cart
-- is 1, as that of a new.
use Prim.Native.Nat.{ℕ, ◌+◌, ◌*◌, ◌-◌, ◌≤◌}
use mathlib.Core.Path.{◌≡◌, refl, ap, ◌∙◌}
use mathlib.Core.Bool.{Bool, true, false, and-false}
use mathlib.Core.List.{List, [], ◌∷◌}
use native.Mathlib.Omega.{arith}
use lib.ListN.{length, take, drop}
use Rattle.carts.specs.Bytes.{zeros, byte, u16, part, any}
use Rattle.carts.specs.Cart.{cart_at, title_form, has_title}
use Rattle.carts.specs.Operation.{is_new, is_retitle, is_recut, is_withdraw, operation_fields, writes_title, space_at_end, spaced, recut, meets_cart, effect, acted_on, act, act_all}
use Rattle.carts.proofs.TestLaws.{or_false_both, by_cond, all_at}
use Rattle.carts.proofs.ScanLaws.{within_true}
use Rattle.carts.proofs.ZeroLaws.{part_zeros}
use Rattle.carts.proofs.CartLaws.{length_cart}
use Rattle.carts.proofs.PartLaws.{length_part, over_before, drop_over_after, byte_in}
use Rattle.carts.proofs.OperationLaws.{Operations, operations_first, fields_cart, length_act}
use Rattle.carts.proofs.KeepLaws.{title_there, act_each}
use Rattle.carts.proofs.TitleKept.{SameTitle, effect_title}

-- what has no space at an end of its title, and an operation that writes its title
end_false : (s : List ℕ) → space_at_end s ≡ false → spaced s ≡ false
unfolding spaced
end_false s e = rw e (and-false (writes_title s))

written_end : (op : List ℕ) → writes_title op ≡ true → spaced op ≡ false → space_at_end op ≡ false
unfolding spaced
written_end op w e = rw w at e

-- the ends are told by the title
same_ends : (op cart : List ℕ) → SameTitle op cart → 1 ≤ byte op 1 → byte op 1 ≤ 64 → space_at_end cart ≡ space_at_end op
same_ends op cart t low high =
    rw (t.length_kept, byte_in cart op 16 64 t.letters_kept 16 (omega arith) (omega arith), byte_in cart op 16 64 t.letters_kept (16 + byte op 1 - 1) (omega arith) (omega arith))

-- an empty cart has no title
zeros_plain : spaced (zeros 80) ≡ false
unfolding spaced zeros
zeros_plain = refl

-- the cart that an operation leaves
module _ (op cart : List ℕ) (o : length op ≡ 80) (l : length cart ≡ 80) (f : operation_fields op ≡ true) (u : spaced op ≡ false) (v : spaced cart ≡ false) where
  written : writes_title op ≡ true → spaced (effect op cart) ≡ false
  unfolding has_title title_form
  written w =
      let n = within_true 1 64 (byte op 1) (all_at 0 _ (title_there op cart o l f w)) in
      let left = effect op cart in
      end_false left (same_ends op left (effect_title op cart o l w).0 n.0 n.1 ∙ written_end op w u)

  recut_same : spaced (recut op cart) ≡ spaced cart
  unfolding spaced recut
  recut_same =
      let s = recut op cart in
      let audio = length_part op 4 8 (omega arith) in
      let front : part s 0 4 ≡ part cart 0 4 = over_before cart 4 8 (part op 4 8) 0 4 (omega arith) (omega arith) in
      let back : drop 12 s ≡ drop 12 cart = drop_over_after cart 4 8 (part op 4 8) 12 (omega arith) audio (omega arith) in
      let later : (i : ℕ) → 12 ≤ i → byte s i ≡ byte cart i = λ i h. byte_in s cart 12 (i - 11) (ap (take (i - 11)) back) i h (omega arith) in
      rw (byte_in s cart 0 4 front 0 (omega arith) (omega arith), byte_in s cart 0 4 front 1 (omega arith) (omega arith), later 16 (omega arith), later (16 + byte cart 1 - 1) (omega arith))

  effect_unspaced : (a b : Bool) → is_new (byte op 0) ≡ a → is_retitle (byte op 0) ≡ b → spaced (effect op cart) ≡ false
  unfolding effect
  effect_unspaced true b p q = written (rw p refl)
  effect_unspaced false true p q = written (rw (p, q) refl)
  effect_unspaced false false p q = rw (p, q) (by_cond Plain (is_recut (byte op 0)) _ _ (λ _. recut_same ∙ v) (λ _. by_cond Plain (is_withdraw (byte op 0)) _ _ (λ _. zeros_plain) (λ _. v)))
    where
      Plain : List ℕ → Type 0
      Plain s = spaced s ≡ false

  acted_unspaced : spaced (acted_on op cart) ≡ false
  unfolding acted_on
  acted_unspaced = by_cond (λ (s : List ℕ). spaced s ≡ false) (meets_cart op cart) _ _ (λ _. effect_unspaced _ _ refl refl) (λ _. v)

-- no cart of a copy has a title that begins or ends with a space; no operation writes one
abbrev pub UnspacedCopy : List ℕ → Type 0
UnspacedCopy copy = (c : ℕ) → 1 ≤ c → c ≤ 128 → spaced (cart_at copy c) ≡ false

abbrev pub UnspacedOperations : List (List ℕ) → Type 0
UnspacedOperations ops = any spaced ops ≡ false

act_unspaced : (copy op : List ℕ) → length copy ≡ 10240 → length op ≡ 80 → operation_fields op ≡ true → spaced op ≡ false → UnspacedCopy copy → UnspacedCopy (act copy op)
act_unspaced copy op l o f u v =
    let n = fields_cart op f in
    act_each (λ _ (s : List ℕ). spaced s ≡ false) copy op l o f
    (acted_unspaced op (cart_at copy (u16 op 2)) o (length_cart copy (u16 op 2) l n.1) f u (v (u16 op 2) n.0 n.1))
    v

pub acts_unspaced : (ops : List (List ℕ)) (copy : List ℕ) → length copy ≡ 10240 → Operations ops → UnspacedOperations ops → UnspacedCopy copy → UnspacedCopy (act_all copy ops)
unfolding act_all any
acts_unspaced [] copy l h u v = v
acts_unspaced (op ∷ ops) copy l h u v =
    let (o, rest) = operations_first op ops h in
    let n = or_false_both (spaced op) (any spaced ops) u in
    acts_unspaced ops (act copy op) (length_act copy op l o.size o.high) rest n.1 (act_unspaced copy op l o.size o.fields n.0 v)

-- a copy of empty carts has none
pub zeros_unspaced : UnspacedCopy (zeros 10240)
unfolding cart_at
zeros_unspaced c h k = ap spaced (part_zeros 10240 (80 * (c - 1)) 80 (omega arith)) ∙ zeros_plain
