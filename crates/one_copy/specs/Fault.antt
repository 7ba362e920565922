-- Which operation of a refused commit or preview is at fault.
use Rattle.std.specs.Prelude.{Bool, true, cond, not, ◌&&◌, List, ℕ, zero, suc, ◌*◌, eqb, Option, Some, None}
use Rattle.carts.specs.Cart.{cart_size}
use Rattle.carts.specs.Bytes.{every, any}
use Rattle.carts.specs.Operation.{operation_form, spaced, operations_of, meets_all}
use Rattle.lines.specs.Text.{part_in}

-- the operations are of their form (what refusal 6 asks); for refusal 16 also none has a title that begins or ends with a space, for refusal 8
-- also each meets its cart on the copy
unfoldable pub allowed : List ℕ → ℕ → List ℕ → Bool
allowed copy row ops =
    every operation_form (operations_of ops)
    && cond (eqb row 16) (not (any spaced (operations_of ops))) (cond (eqb row 8) (meets_all copy (operations_of ops)) true)

-- the first of n operations that is at fault, by the refusal's number, counted from 1: the operations up to it are not allowed, those before it
-- are; or none
abbrev pub or_this : Option ℕ → Bool → ℕ → Option ℕ
or_this (Some first) allowed i = Some first
or_this None allowed i = cond allowed None (Some i)

unfoldable pub first_fault : List ℕ → ℕ → List ℕ → ℕ → Option ℕ
first_fault copy row ops zero = None
first_fault copy row ops (suc n) = or_this (first_fault copy row ops n) (allowed copy row (part_in ops 0 (cart_size * suc n))) (suc n)
