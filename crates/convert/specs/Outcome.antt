-- What comes of an input: converted, or refused and why.
use Rattle.std.specs.Prelude.{◌≡◌, Bool, cond, List, ℕ, Option, Some, None, Result, Ok, Err, length, take, eqb}
use Rattle.carts.specs.Bytes.{byte, pairwise}
use Rattle.carts.specs.Cart.{cart_size, cart_count, copy_size, cart_at}
use Rattle.old_edition.specs.OldFile.{mark, mark_size, old_cart_size, file_size, old_carts}
use Rattle.old_edition.specs.Convert.{Answer, refused, written, from_old, to_old}
use Rattle.convert.specs.declared.fault.Rule.TheVariants.{OldForm, Form, ShortTitle}
use Rattle.convert.specs.declared.outcome.Made.{Made}
use Rattle.convert.specs.declared.outcome.Made.TheVariants.{Copy, OldFile}
use Rattle.convert.specs.declared.outcome.Fault.{Fault}
use Rattle.convert.specs.declared.outcome.Fault.TheVariants.{OtherLength, NoWall, OldCart, Cart, LongTitle}
use Rattle.convert.specs.Fault.{fault_by}
use Rattle.convert.specs.Held.{held_in}

-- "the bytes CART32": an input that begins with them is an old file, any other a copy, whose first byte is 0 or 1
unfoldable pub marked : List ℕ → Bool
marked input = pairwise eqb (take mark_size input) mark

-- refused for the first cart at fault, if any, else what comes next
abbrev pub unless_fault : Option ℕ → (ℕ → Fault) → Result Made Fault → Result Made Fault
unless_fault (Some c) why next = Err (why c)
unless_fault None why next = next

-- refusal 22 of an old file, "not of its length or form", or the carts that it holds
unfoldable pub file_outcome : List ℕ → Result Made Fault
file_outcome file =
    let made = Ok (Copy (held_in old_cart_size cart_count (old_carts file))) in
    cond (eqb (length file) file_size) (unless_fault (fault_by OldForm (old_carts file)) OldCart made) (Err (OtherLength (length file)))

-- refusal 22 of a copy, "then 23, a title over 32 bytes", or the carts that it holds
unfoldable pub copy_outcome : List ℕ → Result Made Fault
copy_outcome copy =
    let made = Ok (OldFile (held_in cart_size cart_count copy)) in
    let titled = unless_fault (fault_by ShortTitle copy) (λ c. LongTitle c (byte (cart_at copy c) 1)) made in
    cond (eqb (length copy) copy_size) (unless_fault (fault_by Form copy) Cart titled) (Err (NoWall (length copy)))

unfoldable pub outcome_of : List ℕ → Result Made Fault
outcome_of input = cond (marked input) (file_outcome input) (copy_outcome input)

-- what the converter answers: "the bytes written", or the refusal's number
abbrev pub answer_of : Result Made Fault → Answer
answer_of (Ok (Copy n)) = written copy_size
answer_of (Ok (OldFile n)) = written file_size
answer_of (Err (OtherLength n)) = refused 22
answer_of (Err (NoWall n)) = refused 22
answer_of (Err (OldCart c)) = refused 22
answer_of (Err (Cart c)) = refused 22
answer_of (Err (LongTitle c n)) = refused 23

-- an input converted: what came of it is what the converter answers, and each output is what the converter leaves; that of the other way is as it was
pub record Converted (input copy copy' file file' : List ℕ) (r : Result Made Fault) : Type 0 where
  pub outcome : r ≡ outcome_of input
  pub answer : answer_of r ≡ cond (marked input) (from_old input copy).answer (to_old input file).answer
  pub copy_left : copy' ≡ cond (marked input) (from_old input copy).output copy
  pub file_left : file' ≡ cond (marked input) file (to_old input file).output
