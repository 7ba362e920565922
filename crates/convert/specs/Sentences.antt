-- The line that tells what came of an input.
use Rattle.std.specs.Prelude.{cond, List, [], ◌++◌, ℕ, Result, Ok, Err, eqb}
use Rattle.carts.specs.Cart.{title_at, cart_at}
use Rattle.lines.specs.Text.{part_in}
use Rattle.lines.specs.Words.{bytes_of}
use Rattle.words.specs.Page.{decimal, numbered, count_of, quoted}
use Rattle.convert.specs.declared.outcome.Made.{Made}
use Rattle.convert.specs.declared.outcome.Made.TheVariants.{Copy, OldFile}
use Rattle.convert.specs.declared.outcome.Fault.{Fault}
use Rattle.convert.specs.declared.outcome.Fault.TheVariants.{OtherLength, NoWall, OldCart, Cart, LongTitle}

-- an old file, or a copy, with so many held carts was converted
unfoldable pub made_text : List ℕ → ℕ → List ℕ → List ℕ
made_text from held to = from ++ count_of held (bytes_of "cart") ++ to

abbrev pub copy_made_text : ℕ → List ℕ
copy_made_text held = made_text (bytes_of "an old file with ") held (bytes_of ", converted to a copy of 10240 bytes\n")

abbrev pub file_made_text : ℕ → List ℕ
file_made_text held = made_text (bytes_of "a copy with ") held (bytes_of ", converted to an old file of 6150 bytes\n")

-- an input's length: no more than 65,536 bytes are read
unfoldable pub length_text : ℕ → List ℕ
length_text n = decimal n ++ cond (eqb n 65536) (bytes_of " or more") []

-- refusal 22, "input not of its length"
unfoldable pub wrong_length_text : List ℕ → ℕ → List ℕ → List ℕ
wrong_length_text words n more = words ++ length_text n ++ more

abbrev pub other_length_text : ℕ → List ℕ
other_length_text n = wrong_length_text (bytes_of "refused (22): it begins with CART32, as an old file does, but its length is ") n (bytes_of " and not 6150\n")

abbrev pub no_wall_text : ℕ → List ℕ
no_wall_text n =
    wrong_length_text (bytes_of "refused (22): it is no wall: it does not begin with CART32, as an old file does, and its length is ") n
    (bytes_of " and not 10240, as a copy's is\n")

-- refusal 22, "input not of its .. form": the first cart at fault, whose it is, and how long a title may be there
unfoldable pub form_text : ℕ → List ℕ → ℕ → List ℕ
form_text c whose longest =
    numbered "refused (22): cart " c ++ whose
    ++ numbered " is out of form: a held cart has its place as its number, a title of 1 to " longest
    ++ bytes_of " letters and then zeros, audio and length of at least 1, and zeros in bytes 12 to 15; an empty one is all zero\n"

-- refusal 23, "a title over 32 bytes": the first cart that has one, its letters and the title
unfoldable pub long_title_text : List ℕ → ℕ → ℕ → List ℕ
long_title_text cart c letters =
    numbered "refused (23): the title of cart " c ++ numbered " has " letters ++ bytes_of " letters, and an old file has room for 32: "
    ++ quoted (part_in cart title_at letters) ++ bytes_of "\n"

-- what an input was converted to
abbrev pub converted_text : Made → List ℕ
converted_text (Copy held) = copy_made_text held
converted_text (OldFile held) = file_made_text held

-- why an input is refused
abbrev pub refused_text : List ℕ → Fault → List ℕ
refused_text input (OtherLength n) = other_length_text n
refused_text input (NoWall n) = no_wall_text n
refused_text input (OldCart c) = form_text c (bytes_of " of the old file") 32
refused_text input (Cart c) = form_text c (bytes_of " of the copy") 64
refused_text input (LongTitle c n) = long_title_text (cart_at input c) c n

-- what came of an input
abbrev pub sentence_of : List ℕ → Result Made Fault → List ℕ
sentence_of input (Ok made) = converted_text made
sentence_of input (Err fault) = refused_text input fault
