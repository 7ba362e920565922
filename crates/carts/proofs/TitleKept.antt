-- Demand 2: "A title is kept whole": by an operation.
use Prim.Native.Nat.{ℕ, ◌-◌, ◌*◌, ◌≤◌}
use mathlib.Core.Path.{◌≡◌, refl, ◌∙◌}
use mathlib.Core.Bool.{Bool, true, false, ◌||◌}
use mathlib.Core.List.{List}
use native.Mathlib.Omega.{arith}
use lib.ListN.{length, set, length-set}
use lib.Seq.{get_or-set_same}
use Rattle.carts.specs.Bytes.{over, part, byte, u16}
use Rattle.carts.specs.Cart.{cart_at}
use Rattle.carts.specs.Operation.{is_new, is_retitle, writes_title, made, retitled, effect, acted_on, meets, act}
use Rattle.carts.proofs.PartLaws.{length_part, length_over, part_over, over_before, byte_in}
use Rattle.carts.proofs.CartLaws.{length_cart}

-- the cart has the operation's title: its length and its 64 bytes
pub record SameTitle (op cart : List ℕ) : Type 0 where
  pub length_kept : byte cart 1 ≡ byte op 1
  pub letters_kept : part cart 16 64 ≡ part op 16 64

-- a title written over a cart that already has the title's length in byte 1
over_title : (op x : List ℕ) → length op ≡ 80 → length x ≡ 80 → byte x 1 ≡ byte op 1 → SameTitle op (over x 16 64 (part op 16 64)) × (length (over x 16 64 (part op 16 64)) ≡ 80)
over_title op x o l e =
    let t : length (part op 16 64) ≡ 64 = length_part op 16 64 (omega arith) in (
      record {
        length_kept = byte_in (over x 16 64 (part op 16 64)) x 1 1 (over_before x 16 64 (part op 16 64) 1 1 (omega arith) (omega arith)) 1 (omega arith) (omega arith) ∙ e;
        letters_kept = part_over x 16 64 (part op 16 64) (omega arith) t;
      },
      length_over x 16 64 (part op 16 64) (omega arith) t ∙ l,
    )

made_title : (op cart : List ℕ) → length op ≡ 80 → length cart ≡ 80 → SameTitle op (made op cart) × (length (made op cart) ≡ 80)
unfolding made
made_title op cart o l =
    let x : List ℕ = set cart 0 1 in
    let k : length x ≡ 80 = length-set cart 0 1 ∙ l in
    let f : length (part op 1 11) ≡ 11 = length_part op 1 11 (omega arith) in
    over_title op (over x 1 11 (part op 1 11)) o (length_over x 1 11 (part op 1 11) (omega arith) f ∙ k)
    (byte_in (over x 1 11 (part op 1 11)) op 1 11 (part_over x 1 11 (part op 1 11) (omega arith) f) 1 (omega arith) (omega arith))

retitled_title : (op cart : List ℕ) → length op ≡ 80 → length cart ≡ 80 → SameTitle op (retitled op cart) × (length (retitled op cart) ≡ 80)
unfolding retitled
retitled_title op cart o l =
    over_title op (set cart 1 (byte op 1)) o (length-set cart 1 (byte op 1) ∙ l) (get_or-set_same cart 1 (byte op 1) 0 (omega arith))

pub effect_title : (op cart : List ℕ) → length op ≡ 80 → length cart ≡ 80 → writes_title op ≡ true → SameTitle op (effect op cart) × (length (effect op cart) ≡ 80)
unfolding effect
effect_title op cart o l k = go (is_new (byte op 0)) refl k
  where
    go : (b : Bool) → is_new (byte op 0) ≡ b → (b || is_retitle (byte op 0)) ≡ true → SameTitle op (effect op cart) × (length (effect op cart) ≡ 80)
    go true e h = rw e (made_title op cart o l)
    go false e h = rw (e, h) (retitled_title op cart o l)

-- kept whole: after a new or a retitle that meets its cart in the right state, the cart's title is the operation's, byte for byte
pub title_kept : (copy op : List ℕ) → length copy ≡ 10240 → length op ≡ 80 → 1 ≤ u16 op 2 → u16 op 2 ≤ 128 → meets copy op ≡ true
    → writes_title op ≡ true → SameTitle op (cart_at (act copy op) (u16 op 2))
unfolding cart_at act meets acted_on
title_kept copy op lc lo h₁ h₂ m k =
    let cart : List ℕ = cart_at copy (u16 op 2) in
    let at : 80 * (u16 op 2 - 1) ≤ length copy = omega arith in
    let t = effect_title op cart lo (length_cart copy (u16 op 2) lc h₂) k in
    rw (m, part_over copy (80 * (u16 op 2 - 1)) 80 (effect op cart) at t.1) t.0
