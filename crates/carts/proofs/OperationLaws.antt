-- Laws of operations.
use Prim.Native.Nat.{ℕ, ◌+◌, ◌-◌, ◌*◌, ◌/◌, ◌<◌, ◌≤◌}
use mathlib.Core.Path.{◌≡◌, ap, ◌∙◌}
use mathlib.Core.Bool.{Bool, true, ◌&&◌, ◌||◌, cond}
use mathlib.Core.List.{List, [], ◌∷◌}
use native.Mathlib.Nat.{mul-div-le}
use native.Mathlib.Omega.{arith}
use lib.Dec.{eqb}
use lib.ListN.{length, take, drop, set, length-set, length-replicate}
use borrow.Author.Tests.{eqb-true}
use Rattle.carts.specs.Bytes.{byte, u16, zeros, part, over, parts, within, every, all_zero}
use Rattle.carts.specs.Cart.{cart_at, title_form, has_title, no_title, has_audio, no_audio}
use Rattle.carts.specs.Operation.{is_new, is_retitle, is_recut, is_withdraw, operation_fields, operation_form, operations_of, made, retitled, recut, meets_cart, effect, acted_on, meets, act, meets_all, act_all}
use Rattle.carts.proofs.TestLaws.{by_cond, all_at, every_at}
use Rattle.carts.proofs.ScanLaws.{and_left, and_right, within_true, every_implied}
use Rattle.carts.proofs.CartLaws.{length_cart}
use Rattle.carts.proofs.PartLaws.{length_part, length_over, part_in, byte_in, u16_in, u32_in}
use Rattle.carts.proofs.EachLaws.{length_parts, parts_at}
use Rattle.carts.proofs.RecordLaws.{parts_next, parts_end, sized_parts}

-- the tests of an operation's fields, read by position
abbrev pub operation_tests : List ℕ → List Bool
operation_tests op =
    let kind = byte op 0 in
    within 1 4 kind ∷ within 1 128 (u16 op 2) ∷ cond (is_new kind || is_retitle kind) (has_title op) (no_title op) ∷ cond (is_new kind || is_recut kind) (has_audio op) (no_audio op) ∷ []

-- an operation of its fields names a cart of the copy
pub fields_cart : (op : List ℕ) → operation_fields op ≡ true → (1 ≤ u16 op 2) × (u16 op 2 ≤ 128)
unfolding operation_fields
fields_cart op e = within_true 1 128 (u16 op 2) (all_at 1 (operation_tests op) e)

-- and its title ends within its bytes
pub fields_title : (op : List ℕ) → operation_fields op ≡ true → byte op 1 ≤ 64
unfolding operation_fields has_title no_title title_form
fields_title op e =
    let kind = byte op 0 in
    let t = all_at 2 (operation_tests op) e in
    by_cond (λ (b : Bool). b ≡ true → byte op 1 ≤ 64) (is_new kind || is_retitle kind) (has_title op) (no_title op)
    (λ _ h. (within_true 1 64 (byte op 1) (all_at 0 _ h)).1)
    (λ _ h. let z = eqb-true (byte op 1) 0 (all_at 0 _ h) in omega arith)
    t

-- operation i of a commit
pub fields_at : (ops : List ℕ) → every operation_fields (operations_of ops) ≡ true → (i : ℕ) → i < length ops / 80 → operation_fields (take 80 (drop (80 * i) ops)) ≡ true
unfolding operations_of
fields_at ops f i h =
    let n = length_parts 80 (length ops / 80) ops in
    let e = every_at operation_fields (parts 80 (length ops / 80) ops) [] i f (omega arith) in
    rw (parts_at 80 (length ops / 80) ops i h) at e

-- the operations left of n, of which i have been passed: the first, and the others
module _ (n i : ℕ) (s : List ℕ) (h : i < n) where
  pub fields_next : every operation_fields (parts 80 (n - i) (drop (80 * i) s)) ≡ true
      → (operation_fields (take 80 (drop (80 * i) s)) ≡ true) × (every operation_fields (parts 80 (n - (i + 1)) (drop (80 * (i + 1)) s)) ≡ true)
  unfolding every
  fields_next e =
      let op = take 80 (drop (80 * i) s) in
      let rest = every operation_fields (parts 80 (n - (i + 1)) (drop (80 * (i + 1)) s)) in
      let f : (operation_fields op && rest) ≡ true = rw parts_next at e in
      (and_left (operation_fields op) rest f, and_right (operation_fields op) rest f)

  pub meets_next : (copy : List ℕ) → meets_all copy (parts 80 (n - i) (drop (80 * i) s))
      ≡ (meets copy (take 80 (drop (80 * i) s)) && meets_all (act copy (take 80 (drop (80 * i) s))) (parts 80 (n - (i + 1)) (drop (80 * (i + 1)) s)))
  unfolding meets_all
  meets_next copy = rw (parts_next 80 n i s h)

  pub act_next : (copy : List ℕ) → act_all copy (parts 80 (n - i) (drop (80 * i) s))
      ≡ act_all (act copy (take 80 (drop (80 * i) s))) (parts 80 (n - (i + 1)) (drop (80 * (i + 1)) s))
  unfolding act_all
  act_next copy = rw (parts_next 80 n i s h)

-- none are left
pub meets_end : (n i : ℕ) (s copy : List ℕ) → n ≤ i → meets_all copy (parts 80 (n - i) s) ≡ true
unfolding meets_all
meets_end n i s copy h = rw (parts_end 80 n i s h)

pub act_end : (n i : ℕ) (s copy : List ℕ) → n ≤ i → act_all copy (parts 80 (n - i) s) ≡ copy
unfolding act_all
act_end n i s copy h = rw (parts_end 80 n i s h)

-- the first operation left is whole and names a cart of the copy
pub op_ready : (ops : List ℕ) (i : ℕ) → i < length ops / 80 → every operation_fields (parts 80 (length ops / 80 - i) (drop (80 * i) ops)) ≡ true
    → (length (take 80 (drop (80 * i) ops)) ≡ 80) × ((1 ≤ u16 (take 80 (drop (80 * i) ops)) 2) × (u16 (take 80 (drop (80 * i) ops)) 2 ≤ 128))
op_ready ops i h e = (length_part ops (80 * i) 80 (omega arith), fields_cart (take 80 (drop (80 * i) ops)) (fields_next (length ops / 80) i ops h e).0)

-- what an operation does is not told by its bytes 12 to 15, the links of a log record
module _ (a b : List ℕ) (front : take 12 a ≡ take 12 b) (back : drop 16 a ≡ drop 16 b) where
  kind_same : byte a 0 ≡ byte b 0
  kind_same = byte_in a b 0 12 front 0 (omega arith) (omega arith)

  letters_same : byte a 1 ≡ byte b 1
  letters_same = byte_in a b 0 12 front 1 (omega arith) (omega arith)

  number_same : u16 a 2 ≡ u16 b 2
  number_same = u16_in a b 0 12 front 2 (omega arith) (omega arith)

  title_same : part a 16 64 ≡ part b 16 64
  title_same = ap (λ l. take 64 l) back

  acted_same : (cart : List ℕ) → acted_on a cart ≡ acted_on b cart
  unfolding acted_on meets_cart effect made retitled recut
  acted_same cart = rw (kind_same, letters_same, title_same, part_in a b 0 12 front 1 11 (omega arith) (omega arith), part_in a b 0 12 front 4 8 (omega arith) (omega arith))

  pub act_links : (copy : List ℕ) → act copy a ≡ act copy b
  unfolding act
  act_links copy = rw (number_same, acted_same)

  pub meets_links : (copy : List ℕ) → meets copy a ≡ meets copy b
  unfolding meets meets_cart
  meets_links copy = rw (number_same, kind_same)

  pub fields_links : operation_fields a ≡ operation_fields b
  unfolding operation_fields has_title no_title has_audio no_audio
  fields_links = rw (
    kind_same,
    letters_same,
    number_same,
    title_same,
    part_in a b 0 12 front 4 8 (omega arith) (omega arith),
    u32_in a b 0 12 front 4 (omega arith) (omega arith),
    u32_in a b 0 12 front 8 (omega arith) (omega arith),
  )

-- a cart and a copy keep their length
pub length_acted : (op cart : List ℕ) → length op ≡ 80 → length cart ≡ 80 → length (acted_on op cart) ≡ 80
unfolding acted_on effect made retitled recut zeros
length_acted op cart p q =
    let either : (b : Bool) (x y : List ℕ) → length x ≡ 80 → length y ≡ 80 → length (cond b x y) ≡ 80 = λ b x y p q. by_cond (λ (z : List ℕ). length z ≡ 80) b x y (λ e. p) (λ e. q) in
    let title = length_part op 16 64 (omega arith) in
    let kept : (i x : ℕ) → length (set cart i x) ≡ 80 = λ i x. length-set cart i x ∙ q in
    let fields = length_over (set cart 0 1) 1 11 (part op 1 11) (omega (arith, kept 0 1)) (length_part op 1 11 (omega arith)) ∙ kept 0 1 in
    let m = length_over (over (set cart 0 1) 1 11 (part op 1 11)) 16 64 (part op 16 64) (omega arith) title ∙ fields in
    let r = length_over (set cart 1 (byte op 1)) 16 64 (part op 16 64) (omega (arith, kept 1 (byte op 1))) title ∙ kept 1 (byte op 1) in
    let u = length_over cart 4 8 (part op 4 8) (omega arith) (length_part op 4 8 (omega arith)) ∙ q in
    let w = length-replicate {A = ℕ} 80 0 in
    let other = either (is_retitle (byte op 0)) _ _ r (either (is_recut (byte op 0)) _ _ u (either (is_withdraw (byte op 0)) _ _ w q)) in
    either (meets_cart op cart) _ _ (either (is_new (byte op 0)) _ _ m other) q

pub length_act : (copy op : List ℕ) → length copy ≡ 10240 → length op ≡ 80 → u16 op 2 ≤ 128 → length (act copy op) ≡ 10240
unfolding act
length_act copy op p q h =
    let c = u16 op 2 in
    length_over copy (80 * (c - 1)) 80 (acted_on op (cart_at copy c)) (omega arith) (length_acted op (cart_at copy c) q (length_cart copy c p h)) ∙ p

-- operations of 80 bytes each, of their fields; the first of them, and the others
pub record Operations (ops : List (List ℕ)) : Type 0 where
  pub sizes : every (λ op. eqb (length op) 80) ops ≡ true
  pub fields : every operation_fields ops ≡ true

pub record Whole (op : List ℕ) : Type 0 where
  pub size : length op ≡ 80
  pub fields : operation_fields op ≡ true
  pub low : 1 ≤ u16 op 2
  pub high : u16 op 2 ≤ 128

-- the first operation's size, and those of the others
pub sizes_first : (op : List ℕ) (ops : List (List ℕ)) → every (λ o. eqb (length o) 80) (op ∷ ops) ≡ true → (length op ≡ 80) × (every (λ o. eqb (length o) 80) ops ≡ true)
unfolding every
sizes_first op ops h =
    let sized : List ℕ → Bool = λ o. eqb (length o) 80 in
    (eqb-true _ _ (and_left (sized op) (every sized ops) h), and_right (sized op) (every sized ops) h)

pub operations_first : (op : List ℕ) (ops : List (List ℕ)) → Operations (op ∷ ops) → Whole op × Operations ops
unfolding every
operations_first op ops h =
    let (size, sizes) = sizes_first op ops h.sizes in
    let f = and_left (operation_fields op) (every operation_fields ops) h.fields in
    let c = fields_cart op f in
    (record { size = size; fields = f; low = c.0; high = c.1 }, record { sizes = sizes; fields = and_right (operation_fields op) (every operation_fields ops) h.fields })

-- what an operation keeps of a copy, a transaction keeps; so its length
pub acts_keep : (P : List ℕ → Type 0) → ((copy op : List ℕ) → length copy ≡ 10240 → Whole op → P copy → P (act copy op))
    → (ops : List (List ℕ)) (copy : List ℕ) → length copy ≡ 10240 → Operations ops → P copy → P (act_all copy ops)
unfolding act_all
acts_keep P kept [] copy l h p = p
acts_keep P kept (op ∷ ops) copy l h p =
    let (o, rest) = operations_first op ops h in
    acts_keep P kept ops (act copy op) (length_act copy op l o.size o.high) rest (kept copy op l o p)

pub length_act_all : (ops : List (List ℕ)) (copy : List ℕ) → length copy ≡ 10240 → Operations ops → length (act_all copy ops) ≡ 10240
length_act_all ops copy l h = acts_keep (λ (s : List ℕ). length s ≡ 10240) (λ copy op l o _. length_act copy op l o.size o.high) ops copy l h l

sized_operations : (bytes : List ℕ) → every (λ op. eqb (length op) 80) (operations_of bytes) ≡ true
unfolding operations_of
sized_operations bytes = sized_parts 80 (length bytes / 80) bytes (mul-div-le (length bytes) 80)

-- operations that are of their form are of their fields
pub forms_fields : (ops : List (List ℕ)) → every operation_form ops ≡ true → every operation_fields ops ≡ true
unfolding operation_form
forms_fields ops e = every_implied operation_form operation_fields ops (λ op h. all_at 0 (operation_fields op ∷ all_zero (part op 12 4) ∷ []) h) e

-- those of a commit that are of their form
pub operations_of_law : (bytes : List ℕ) → every operation_form (operations_of bytes) ≡ true → Operations (operations_of bytes)
operations_of_law bytes e = record { sizes = sized_operations bytes; fields = forms_fields (operations_of bytes) e }
