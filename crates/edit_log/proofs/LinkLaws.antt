-- Links in a record, bytes 12–13 and 14–15: where each is read, and what it leaves of the record.
use mathlib.Core.Path.{◌≡◌, refl, ap, ◌∙◌}
use mathlib.Core.Bool.{true}
use mathlib.Core.List.{List, [], ◌∷◌}
use Prim.Native.Nat.{ℕ, ◌/◌, ◌%◌}
use native.Mathlib.Omega.{arith}
use lib.ListN.{length}
use Rattle.carts.specs.Bytes.{zeros, part, over, u16, u16_bytes, all, all_zero}
use Rattle.carts.specs.Operation.{operation_fields, operation_form}
use Rattle.carts.proofs.TestLaws.{all_cons, all_nil}
use Rattle.carts.proofs.PartLaws.{length_over, part_over, take_over, drop_over_after, over_before, over_after}
use Rattle.carts.proofs.OperationLaws.{fields_links}
use Rattle.carts.proofs.ZeroLaws.{length_zeros, zero_first, part_zeros, zero_zeros}
use Rattle.edit_log.specs.Log.{handed_in}
use Rattle.edit_log.specs.Chains.{free_form}
use Rattle.carts.proofs.FieldLaws.{Head, bytes, by_fields}

-- the next operation, and the next transaction
abbrev pub linked_to : ℕ → List ℕ → List ℕ
linked_to n x = over x 12 2 (u16_bytes n)

abbrev pub followed_by : ℕ → List ℕ → List ℕ
followed_by n x = over x 14 2 (u16_bytes n)

no_links : (h : Head) (t : List ℕ) → all_zero (part (bytes h t) 12 4) ≡ true → (h.b12 ≡ 0) × (h.b13 ≡ 0) × (h.b14 ≡ 0) × (h.b15 ≡ 0)
no_links h t z =
    let z12 = zero_first h.b12 _ z in
    let z13 = zero_first h.b13 _ z12.1 in
    let z14 = zero_first h.b14 _ z13.1 in
    let z15 = zero_first h.b15 _ z14.1 in
    (z12.0, z13.0, z14.0, z15.0)

module _ (n : ℕ) (x : List ℕ) (l : length x ≡ 80) where
  pub length_linked : length (linked_to n x) ≡ 80
  unfolding u16_bytes
  length_linked = length_over x 12 2 (n % 256 ∷ n / 256 ∷ []) (omega arith) refl ∙ l

  pub linked_next : u16 (linked_to n x) 12 ≡ n
  unfolding u16 u16_bytes
  linked_next = by_fields (λ x. u16 (linked_to n x) 12 ≡ n) 0 (λ h t _. omega arith) x (omega arith)

  pub linked_fields : operation_fields (linked_to n x) ≡ operation_fields x
  unfolding u16_bytes
  linked_fields = fields_links (linked_to n x) x (take_over x 12 2 (u16_bytes n) 12 (omega arith) (omega arith)) (drop_over_after x 12 2 (u16_bytes n) 16 (omega arith) refl (omega arith))

  pub linked_last : all_zero (part x 12 4) ≡ true → u16 (linked_to n x) 14 ≡ 0
  unfolding u16 u16_bytes
  linked_last = by_fields (λ x. all_zero (part x 12 4) ≡ true → u16 (linked_to n x) 14 ≡ 0) 0
      (λ h t _ z. let k = no_links h t z in rw (k.2, k.3)) x (omega arith)

  pub linked_handed : all_zero (part x 12 4) ≡ true → handed_in (linked_to n x) ≡ x
  unfolding handed_in u16_bytes zeros
  linked_handed = by_fields (λ x. all_zero (part x 12 4) ≡ true → handed_in (linked_to n x) ≡ x) 0
      (λ h t _ z. let k = no_links h t z in rw (k.0, k.1, k.2, k.3)) x (omega arith)

  pub followed_handed : handed_in (followed_by n x) ≡ handed_in x
  unfolding handed_in u16_bytes zeros
  followed_handed = by_fields (λ x. handed_in (followed_by n x) ≡ handed_in x) 0 (λ h t _. refl) x (omega arith)

  pub length_followed : length (followed_by n x) ≡ 80
  unfolding u16_bytes
  length_followed = length_over x 14 2 (n % 256 ∷ n / 256 ∷ []) (omega arith) refl ∙ l

  pub followed_next : u16 (followed_by n x) 12 ≡ u16 x 12
  unfolding u16 u16_bytes
  followed_next = by_fields (λ x. u16 (followed_by n x) 12 ≡ u16 x 12) 0 (λ h t _. refl) x (omega arith)

  pub followed_last : u16 (followed_by n x) 14 ≡ n
  unfolding u16 u16_bytes
  followed_last = by_fields (λ x. u16 (followed_by n x) 14 ≡ n) 0 (λ h t _. omega arith) x (omega arith)

  pub followed_fields : operation_fields (followed_by n x) ≡ operation_fields x
  unfolding u16_bytes
  followed_fields = fields_links (followed_by n x) x (take_over x 14 2 (u16_bytes n) 12 (omega arith) (omega arith)) (drop_over_after x 14 2 (u16_bytes n) 16 (omega arith) refl (omega arith))

  -- a free record stays one
  pub linked_free : free_form (linked_to n x) ≡ free_form x
  unfolding free_form u16_bytes
  linked_free = rw (over_before x 12 2 (n % 256 ∷ n / 256 ∷ []) 0 12 (omega arith) (omega arith), over_after x 12 2 (n % 256 ∷ n / 256 ∷ []) 14 66 (omega arith) refl (omega arith))

pub zero_free : free_form (zeros 80) ≡ true
unfolding free_form all
zero_free = rw (part_zeros 80 0 12 (omega arith), part_zeros 80 14 66 (omega arith), zero_zeros 12, zero_zeros 66)

-- without links: an operation as it was handed in
module _ (x : List ℕ) (l : length x ≡ 80) where
  pub length_handed : length (handed_in x) ≡ 80
  unfolding handed_in
  length_handed = length_over x 12 4 (zeros 4) (omega arith) (length_zeros 4) ∙ l

  pub handed_form : operation_fields x ≡ true → operation_form (handed_in x) ≡ true
  unfolding operation_form handed_in
  handed_form h = all_cons _ _
      (fields_links _ x (take_over x 12 4 (zeros 4) 12 (omega arith) (omega arith)) (drop_over_after x 12 4 (zeros 4) 16 (omega arith) (length_zeros 4) (omega arith)) ∙ h)
      (all_cons _ _ (ap all_zero (part_over x 12 4 (zeros 4) (omega arith) (length_zeros 4)) ∙ zero_zeros 4) all_nil)
