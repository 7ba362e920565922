-- The lines that tell the one-copy order.
use Rattle.std.specs.Prelude.{Bool, cond, ◌&&◌, List, [], ◌++◌, ℕ, take, count_by, eqb, ltb}
use Rattle.carts.specs.Cart.{title_at}
use Rattle.carts.specs.Bytes.{byte, u16}
use Rattle.lines.specs.Text.{part_in}
use Rattle.lines.specs.Words.{bytes_of}
use Rattle.journal.specs.History.{is_kind, commit_kind, refused_kind}
use Rattle.journal.specs.declared.history.Entry.{Entry}
use Rattle.journal.specs.declared.history.Kind.{Kind}
use Rattle.words.specs.Page.{numbered, count_of, quoted}
use Rattle.words.specs.Request.{asked_numbers}

-- how many commits were refused with 8, where any were
unfoldable pub refusals_text : ℕ → List ℕ
refusals_text n = cond (eqb n 0) [] (bytes_of ", " ++ count_of n (bytes_of "refusal") ++ bytes_of " (8)")

-- the one-copy order begins: how many edits, refusals with 8 and reads it has
unfoldable pub order_text : ℕ → ℕ → ℕ → List ℕ
order_text edits refusals reads =
    bytes_of "One-copy order of " ++ count_of edits (bytes_of "edit") ++ refusals_text refusals ++ (bytes_of " and " ++ count_of reads (bytes_of "read")) ++ bytes_of ":\n"

-- how many of the first n entries are of a kind
abbrev pub of_kind : Kind → List Entry → ℕ → ℕ
of_kind kind entries n = count_by (λ e. is_kind e.kind kind) (take n entries)

-- an entry of the order: its line and session, and what it did: an edit's number, or the edit at whose state a commit was refused,
-- and, one by one, its operations
unfoldable pub place_text : Entry → List ℕ
place_text e = numbered "  line " e.line ++ numbered ", session " e.session

unfoldable pub edit_text : Entry → List ℕ
edit_text e = place_text e ++ cond (is_kind e.kind refused_kind) (numbered ": refused (8) at edit " e.number) (numbered ": edit " e.number) ++ bytes_of ":"

unfoldable pub operation_text : List ℕ → List ℕ
operation_text op =
    let cart = u16 op 2 in
    cond (eqb (byte op 0) 1) (numbered " new cart " cart)
    (cond (eqb (byte op 0) 2) (numbered " retitle cart " cart)
    (cond (eqb (byte op 0) 3) (numbered " re-cut cart " cart) (numbered " withdraw cart " cart)))

-- or what a read asked for, by byte 0 of its request: 1 for so many numbers as byte 1 says, else a title of so many letters
unfoldable pub request_text : List ℕ → List ℕ
request_text request =
    cond (eqb (byte request 0) 1) (bytes_of ": asked for carts" ++ asked_numbers request (byte request 1))
    (bytes_of ": asked for title " ++ quoted (part_in request title_at (byte request 1)))

unfoldable pub asked_text : Entry → List ℕ → List ℕ
asked_text e request = place_text e ++ request_text request

-- and what it was shown; where the next accepted commit of the order is on an earlier line, that the read stands before it
unfoldable pub reason_text : Entry → Entry → List ℕ
reason_text e next =
    cond (is_kind next.kind commit_kind && ltb next.line e.line)
    (numbered ", so it stands before edit " next.number ++ numbered " of line " next.line) []

unfoldable pub shown_text : Entry → Entry → List ℕ
shown_text e next = numbered ", shown edit " e.number ++ numbered " (found " e.found ++ bytes_of ")" ++ reason_text e next

-- the entry's end: whether its answer is the same on a single library
unfoldable pub same_text : Bool → List ℕ
same_text same = cond same (bytes_of "\n") (bytes_of ": DIFFERENT on a single library\n")

-- what the comparison came to: of so many entries, so many were compared, and so many answers differ
unfoldable pub unlike_text : ℕ → ℕ → List ℕ
unlike_text entries differ = numbered " compared, " differ ++ numbered " different; " entries ++ bytes_of " were to be compared\n"

unfoldable pub verdict_text : ℕ → ℕ → ℕ → List ℕ
verdict_text entries compared differ =
    bytes_of "  " ++ count_of compared (bytes_of "answer")
    ++ cond (eqb differ 0 && eqb compared entries) (bytes_of ", each the same on a single library\n") (unlike_text entries differ)

-- answers that the history had no room for
unfoldable pub left_out_text : ℕ → List ℕ
left_out_text n = bytes_of "  left out for want of room: " ++ count_of n (bytes_of "later answer") ++ bytes_of "\n"
