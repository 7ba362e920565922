-- The first cart of an input that is at fault.
use Rattle.std.specs.Prelude.{Bool, cond, not, List, ℕ, zero, suc, ◌+◌, Option, Some, None, take, drop}
use Rattle.carts.specs.Cart.{cart_size, cart_count, cart_form}
use Rattle.old_edition.specs.OldFile.{old_cart_size, old_cart_form}
use Rattle.old_edition.specs.Convert.{long_title}
use Rattle.convert.specs.declared.fault.Rule.{Rule}
use Rattle.convert.specs.declared.fault.Rule.TheVariants.{OldForm, Form, ShortTitle}

-- the bytes of a cart of which something is asked, and what is asked of cart c: refusal 22's form, and refusal 23's title
abbrev pub size_by : Rule → ℕ
size_by OldForm = old_cart_size
size_by Form = cart_size
size_by ShortTitle = cart_size

abbrev pub keeps : Rule → ℕ → List ℕ → Bool
keeps OldForm c s = old_cart_form c s
keeps Form c s = cart_form c s
keeps ShortTitle c s = not (long_title s)

-- the number of the first of n parts of `size` bytes that fails the test of its number and its bytes, where the first part has number i
unfoldable pub first_fault : (ℕ → List ℕ → Bool) → ℕ → ℕ → ℕ → List ℕ → Option ℕ
first_fault test size zero i s = None
first_fault test size (suc n) i s = let later = first_fault test size n (i + 1) (drop size s) in cond (test i (take size s)) later (Some i)

-- the first of 128 carts that is not as asked, counted from 1
abbrev pub fault_by : Rule → List ℕ → Option ℕ
fault_by rule carts = first_fault (keeps rule) (size_by rule) cart_count 1 carts
