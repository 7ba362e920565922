-- A request of its form asks for carts of the copy, and a read shows as many bytes as it needs.
use mathlib.Core.Path.{◌≡◌, refl}
use mathlib.Core.Bool.{Bool, true, false, cond}
use mathlib.Core.List.{List, [], ◌∷◌}
use Prim.Native.Nat.{ℕ, ◌*◌}
use borrow.Author.Tests.{eqb-true}
use lib.Dec.{eqb}
use lib.ListN.{length, drop}
use Rattle.carts.specs.Bytes.{part, byte, within, every, all_zero}
use Rattle.carts.specs.Cart.{title_form}
use Rattle.carts.proofs.TestLaws.{all_at}
use Rattle.carts.proofs.TitleLaws.{length_by_numbers, length_by_title}
use Rattle.replication.specs.Layout.{waiting_form}
use Rattle.replication.specs.Request.{Request, nothing, by_numbers, by_title, numbers_in, request_of, numbers_form, request_fields, request_form, needed, shown_from}

-- the cart numbers that a request asks for are 1–128
abbrev pub Askable : Request → Type 0
Askable nothing = Unit {0}
Askable (by_numbers cs) = every (within 1 128) cs ≡ true
Askable (by_title t) = Unit {0}

fields_askable : (x : List ℕ) → request_fields x ≡ true → Askable (request_of x)
unfolding request_fields request_of numbers_form
fields_askable x e = go (eqb (byte x 0) 1) (eqb (byte x 0) 2) e
  where
    go : (a b : Bool) → cond a (numbers_form x) (cond b (title_form (byte x 1) (part x 16 64)) false) ≡ true
        → Askable (cond a (by_numbers (numbers_in x)) (cond b (by_title (part x 16 (byte x 1))) nothing))
    go true b h = all_at 1 (within 1 32 (byte x 1) ∷ every (within 1 128) (numbers_in x) ∷ all_zero (drop (2 * byte x 1) (part x 16 64)) ∷ []) h
    go false true h = tt
    go false false h = tt

pub request_askable : (x : List ℕ) → request_form x ≡ true → Askable (request_of x)
unfolding request_form
request_askable x e = fields_askable x (all_at 1 (eqb (length x) 80 ∷ request_fields x ∷ all_zero (part x 2 14) ∷ []) e)

-- so are those of a waiting read in a session's bytes
pub waiting_askable : (x : List ℕ) → waiting_form x ≡ true → Askable (request_of x)
unfolding waiting_form request_of
waiting_askable x e = go (eqb (byte x 0) 0) refl
  where
    go : (b : Bool) → eqb (byte x 0) 0 ≡ b → Askable (request_of x)
    go true z = rw (eqb-true (byte x 0) 0 z) tt
    go false z = fields_askable x (rw z at e)

pub length_shown : (copy : List ℕ) (q : Request) → length copy ≡ 10240 → Askable q → length (shown_from copy q) ≡ needed q
unfolding shown_from needed
length_shown copy nothing l a = refl
length_shown copy (by_numbers cs) l a = length_by_numbers copy cs l a
length_shown copy (by_title t) l a = length_by_title copy t l
