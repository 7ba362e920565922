-- Every copy of its form is made from 128 empty carts: a held cart's bytes are themselves the operation that makes it anew.
use Prim.Native.Nat.{ℕ, zero, suc, ◌+◌, ◌-◌, ◌*◌, ◌≤◌, ◌<◌}
use mathlib.Core.Path.{◌≡◌, refl, sym, ap, ◌∙◌}
use mathlib.Core.Bool.{Bool, true, false, cond, or-false, and-eq-true_iff}
use mathlib.Core.List.{List, [], ◌∷◌, ◌++◌, append_assoc, append-nil}
use native.Mathlib.Omega.{arith}
use lib.Dec.{eqb}
use lib.ListN.{length, take, drop, get_or, replicate, length-replicate, get_or-replicate, replicate-append-replicate, length-append, length-drop, take-append-drop}
use lib.Seq.{take_all, take_at, drop_at, length-take-le}
use borrow.Author.Tests.{eqb-true, le-leb}
use Rattle.carts.specs.Bytes.{zeros, byte, u16, part, within, all, every, all_zero, each_part}
use Rattle.carts.specs.Cart.{has_title, has_audio, held, held_form, cart_form, copy_form, cart_at}
use Rattle.carts.specs.Operation.{operation_fields, made, meets_cart, effect, acted_on, act, act_all}
use Rattle.carts.specs.Transaction.{Transaction, replay}
use Rattle.carts.proofs.TestLaws.{all_at, by_cond}
use Rattle.carts.proofs.ZeroLaws.{length_zeros, zeros_of}
use Rattle.carts.proofs.FieldLaws.{Head, bytes, by_fields}
use Rattle.carts.proofs.CartLaws.{cart_held}
use Rattle.carts.proofs.OperationLaws.{Operations}
use Rattle.carts.proofs.KeepLaws.{Copy}

-- the held ones of n carts that stand one after the other
unfoldable pub held_of : ℕ → List ℕ → Transaction
held_of zero s = []
held_of (suc n) s = let rest = held_of n (drop 80 s) in cond (held (take 80 s)) (take 80 s ∷ rest) rest

-- the held carts of a copy, as operations that make them anew
unfoldable pub held_carts : List ℕ → Transaction
held_carts copy = held_of 128 copy

-- n transactions that make a copy from 128 empty carts; none where n is 0
unfoldable pub makers : ℕ → List ℕ → List Transaction
makers zero copy = []
makers (suc n) copy = held_carts copy ∷ replicate n []

pub length_makers : (n : ℕ) (copy : List ℕ) → length (makers n copy) ≡ n
unfolding makers
length_makers zero copy = refl
length_makers (suc n) copy = ap suc (length-replicate n [])

-- the tests of a held cart's form, read by position
abbrev held_tests : ℕ → List ℕ → List Bool
held_tests c s = held s ∷ eqb (u16 s 2) c ∷ has_title s ∷ has_audio s ∷ all_zero (part s 12 4) ∷ []

-- a held cart's bytes make that cart of an empty one
makes_head : (c : ℕ) (h : Head) (t : List ℕ) → 64 ≤ length t → length (bytes h t) ≡ 80 → held_form c (bytes h t) ≡ true → acted_on (bytes h t) (zeros 80) ≡ bytes h t
unfolding held_form held acted_on meets_cart effect made zeros
makes_head c h t g l f =
    let s = bytes h t in
    let one : h.b0 ≡ 1 = eqb-true h.b0 1 (all_at 0 (held_tests c s) f) in
    let links : h.b12 ∷ h.b13 ∷ h.b14 ∷ h.b15 ∷ [] ≡ 0 ∷ 0 ∷ 0 ∷ 0 ∷ [] = zeros_of (part s 12 4) (all_at 4 (held_tests c s) f) in
    let title : take 64 t ++ [] ≡ t = append-nil (take 64 t) ∙ take_all 64 t (omega arith) in
    rw one (cc)

makes : (c : ℕ) (s : List ℕ) → length s ≡ 80 → held_form c s ≡ true → acted_on s (zeros 80) ≡ s
makes c s l f = by_fields (λ (s : List ℕ). length s ≡ 80 → held_form c s ≡ true → acted_on s (zeros 80) ≡ s) 64 (makes_head c) s (omega arith) l f

-- and they are an operation of its fields, on that cart
number_of : (c : ℕ) (s : List ℕ) → held_form c s ≡ true → u16 s 2 ≡ c
unfolding held_form
number_of c s f = eqb-true (u16 s 2) c (all_at 1 (held_tests c s) f)

fields_of : (c : ℕ) (s : List ℕ) → 1 ≤ c → c ≤ 128 → held_form c s ≡ true → operation_fields s ≡ true
unfolding held_form held operation_fields all within
fields_of c s low high f =
    let one : byte s 0 ≡ 1 = eqb-true (byte s 0) 1 (all_at 0 (held_tests c s) f) in
    rw (one, number_of c s f, le-leb 1 c low, le-leb c 128 high, all_at 2 (held_tests c s) f, all_at 3 (held_tests c s) f)

-- what a cart's first byte says of its other bytes
held_cart : (c : ℕ) (s : List ℕ) → cart_form c s ≡ true → held s ≡ true → held_form c s ≡ true
unfolding held
held_cart c s f h = let one : byte s 0 ≡ 1 = eqb-true (byte s 0) 1 h in sym (cart_held c s (λ e. omega arith)) ∙ f

empty_cart : (c : ℕ) (s : List ℕ) → cart_form c s ≡ true → held s ≡ false → length s ≡ 80 → s ≡ zeros 80
unfolding cart_form held_form all
empty_cart c s f h l = zeros_of s (sym (or-false (all_zero s)) ∙ (rw h at f)) ∙ ap zeros l

-- the first cart of them is of its form, and so are the others
each_first : (n i : ℕ) (s : List ℕ) → each_part cart_form 80 (suc n) i s ≡ true → (cart_form i (take 80 s) ≡ true) × (each_part cart_form 80 n (i + 1) (drop 80 s) ≡ true)
unfolding each_part
each_first n i s f = (and-eq-true_iff (cart_form i (take 80 s)) (each_part cart_form 80 n (i + 1) (drop 80 s))).0 f

-- the held ones are operations
held_operations : (n i : ℕ) (s : List ℕ) → 1 ≤ i → i + n ≤ 129 → length s ≡ 80 * n → each_part cart_form 80 n i s ≡ true → Operations (held_of n s)
unfolding held_of every
held_operations zero i s low high l f = record { sizes = refl; fields = refl }
held_operations (suc n) i s low high l f =
    let (form, forms) = each_first n i s f in
    let rest = held_operations n (i + 1) (drop 80 s) (omega arith) (omega arith) (rw length-drop (omega arith)) forms in
    by_cond Operations (held (take 80 s)) (take 80 s ∷ held_of n (drop 80 s)) (held_of n (drop 80 s))
    (λ h. record {
      sizes = rw (length-take-le 80 s (omega arith)) rest.sizes;
      fields = rw (fields_of i (take 80 s) low (omega arith) (held_cart i (take 80 s) form h)) rest.fields;
    })
    (λ h. rest)

-- a held cart made of the first of the empty ones
act_makes : (front s rest : List ℕ) (i : ℕ) → length front ≡ 80 * (i - 1) → length s ≡ 80 → held_form i s ≡ true
    → act (front ++ (zeros 80 ++ rest)) s ≡ front ++ (s ++ rest)
unfolding act cart_at
act_makes front s rest i p l f =
    let z = length_zeros 80 in
    let others = zeros 80 ++ rest in
    rw (number_of i s f, drop_at front others (80 * (i - 1)) p, take_at front others (80 * (i - 1)) p, take_at (zeros 80) rest 80 z, drop_at (zeros 80) rest 80 z, makes i s l f)

zeros_more : (n : ℕ) → zeros (80 * suc n) ≡ zeros 80 ++ zeros (80 * n)
unfolding zeros
zeros_more n = let e : 80 * suc n ≡ 80 + 80 * n = omega arith in ap (λ k. replicate k 0) e ∙ sym (replicate-append-replicate 80 (80 * n) 0)

-- the carts before number i stay, and those from it on are made
held_make : (n i : ℕ) (front s : List ℕ) → 1 ≤ i → length front ≡ 80 * (i - 1) → length s ≡ 80 * n → each_part cart_form 80 n i s ≡ true
    → act_all (front ++ zeros (80 * n)) (held_of n s) ≡ front ++ s
unfolding held_of act_all zeros
held_make zero i front s low p l f = ap (λ r. front ++ r) (take_all 0 s (omega arith))
held_make (suc n) i front s low p l f =
    let (form, forms) = each_first n i s f in
    let first = take 80 s in
    let rest = held_of n (drop 80 s) in
    let empty = zeros (80 * n) in
    let o : length first ≡ 80 = length-take-le 80 s (omega arith) in
    let q : length (front ++ first) ≡ 80 * (i + 1 - 1) = length-append front first ∙ omega arith in
    let whole : (front ++ first) ++ drop 80 s ≡ front ++ s = append_assoc front first (drop 80 s) ∙ ap (λ r. front ++ r) (take-append-drop 80 s) in
    let others = held_make n (i + 1) (front ++ first) (drop 80 s) (omega arith) q (rw length-drop (omega arith)) forms ∙ whole in
    let after : (copy : List ℕ) → copy ≡ front ++ (first ++ empty) → act_all copy rest ≡ front ++ s = λ copy e. ap (λ r. act_all r rest) (e ∙ sym (append_assoc front first empty)) ∙ others in
    let before : front ++ zeros (80 * suc n) ≡ front ++ (zeros 80 ++ empty) = ap (λ r. front ++ r) (zeros_more n) in
    by_cond (λ (ops : Transaction). act_all (front ++ zeros (80 * suc n)) ops ≡ front ++ s) (held first) (first ∷ rest) rest
    (λ h. after (act (front ++ zeros (80 * suc n)) first) (ap (λ r. act r first) before ∙ act_makes front first empty i p o (held_cart i first form h)))
    (λ h. after (front ++ zeros (80 * suc n)) (before ∙ ap (λ r. front ++ (r ++ empty)) (sym (empty_cart i first form h o))))

-- empty transactions change nothing
replay_none : (n : ℕ) (copy : List ℕ) → replay copy (replicate n []) ≡ copy
unfolding replay act_all
replay_none zero copy = refl
replay_none (suc n) copy = replay_none n copy

-- each transaction is of operations, and together they make the copy
pub makers_operations : (n : ℕ) (copy : List ℕ) → Copy copy → (k : ℕ) → k < n → Operations (get_or (makers n copy) k [])
unfolding makers held_carts copy_form every
makers_operations zero copy c k h = absurd (omega arith)
makers_operations (suc n) copy c zero h = held_operations 128 1 copy (omega arith) (omega arith) c.size c.form
makers_operations (suc n) copy c (suc k) h = rw (get_or-replicate {A = Transaction} n k [] [] (omega arith)) (record { sizes = refl; fields = refl })

pub made_by : (n : ℕ) (copy : List ℕ) → Copy copy → (n ≡ 0 → all_zero copy ≡ true) → replay (zeros 10240) (makers n copy) ≡ copy
unfolding makers held_carts copy_form replay
made_by zero copy c z = sym (zeros_of copy (z refl) ∙ ap zeros c.size)
made_by (suc n) copy c z = replay_none n (act_all (zeros 10240) (held_of 128 copy)) ∙ held_make 128 1 [] copy (omega arith) refl c.size c.form
