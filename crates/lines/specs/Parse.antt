-- Lines read as calls: the grammar of docs/TRANSCRIPT.md.
use Rattle.std.specs.Prelude.{◌≡◌, Bool, true, false, cond, ◌||◌, List, [], ◌∷◌, ◌++◌, ℕ, zero, suc, ◌*◌, ◌/◌, ◌≤◌, length, drop, eqb, Option, Some, None}
use Rattle.carts.specs.Cart.{cart_size}
use Rattle.carts.specs.Bytes.{zeros}
use Rattle.lines.specs.declared.text.Class.TheVariants.{Digit}
use Rattle.lines.specs.declared.cursor.Mistake.{Mistake}
use Rattle.lines.specs.declared.cursor.Mistake.TheVariants.{UnknownWord, UnknownOperation, ColonMissing, AudioMissing, LengthMissing, ToMissing, TooManyOperations, TooManyNumbers, TooMuch}
use Rattle.lines.specs.declared.keyword.Command.{Command}
pub use Rattle.carts.specs.Kind.{kind_byte}
use Rattle.carts.specs.declared.kind.Kind.{Kind}
use Rattle.carts.specs.declared.kind.Kind.TheVariants.{New, Retitle, Recut, Withdraw}
use Rattle.lines.specs.declared.parse.Call.{Call}
use Rattle.lines.specs.declared.parse.Call.TheVariants.{Nothing, Show, Setup, Commit, Preview, Send, Refresh, Read, Collect, Move, Load, Retire, Van, Unreadable}
use Rattle.lines.specs.Text.{in_class}
use Rattle.lines.specs.Cursor.{Reading, Taken, Quoted, new_at, moved_to, stopped_by, next_place, next_byte, next_word, word_end, past_word, past_mark, number_at, title_at, letters_of, is_over, ended_at}
use Rattle.lines.specs.Build.{operation_bytes, numbers_bytes, studio_bytes, most_numbers, most_studios}
use Rattle.lines.specs.Words.{bytes_of, says}

-- the largest u32, and the largest number that two bytes hold
abbrev pub any_number : ℕ
any_number = 4294967295

abbrev pub two_bytes : ℕ
two_bytes = 65535

-- bytes or numbers that were read one after the other, and the cursor past them; the same with others before them
pub record Gathered : Type 0 where
  pub items : List ℕ
  pub cursor : Reading

abbrev pub gathered : List ℕ → Reading → Gathered
gathered items c = record { items = items; cursor = c }

abbrev pub with_first : List ℕ → Gathered → Gathered
with_first items g = gathered (items ++ g.items) g.cursor

-- a title, where one is asked for
unfoldable pub title_if : Reading → Bool → Quoted
title_if c asked = cond asked (title_at c) (record { start = 0; length = 0; cursor = c })

-- a word and the number after it, where they are asked for
unfoldable pub number_if : Reading → List ℕ → Mistake → Bool → Taken
number_if c word m asked = cond asked (number_at (past_word c word m) any_number) (record { value = 0; cursor = c })

-- the kinds of operations by their words: the byte of each, and whether its line has a title and a recording
unfoldable pub kind_of : List ℕ → Option Kind
kind_of word =
    cond (says word "new") (Some New)
    (cond (says word "retitle") (Some Retitle)
    (cond (says word "re-cut") (Some Recut)
    (cond (says word "withdraw") (Some Withdraw) None)))

abbrev pub has_title : Kind → Bool
has_title New = true
has_title Retitle = true
has_title Recut = false
has_title Withdraw = false

abbrev pub has_recording : Kind → Bool
has_recording New = true
has_recording Retitle = false
has_recording Recut = true
has_recording Withdraw = false

-- the 80 bytes of an operation: its cart, a title and a recording where its kind has them
unfoldable pub fields_at : Reading → ℕ → Bool → Bool → Gathered
fields_at c kind titled recorded =
    let cart = number_at c two_bytes in
    let title = title_if cart.cursor titled in
    let audio = number_if title.cursor (bytes_of "audio") AudioMissing recorded in
    let milliseconds = number_if audio.cursor (bytes_of "length") LengthMissing recorded in
    gathered (operation_bytes kind cart.value audio.value milliseconds.value (letters_of cart.cursor title)) milliseconds.cursor

-- one operation, by its word
unfoldable pub operation_at : Reading → Gathered
operation_at c =
    let word = next_word c in
    let next = moved_to c (word_end c) in
    cond (says word "new") (fields_at next 1 true true)
    (cond (says word "retitle") (fields_at next 2 true false)
    (cond (says word "re-cut") (fields_at next 3 false true)
    (cond (says word "withdraw") (fields_at next 4 false false)
    (gathered (zeros cart_size) (stopped_by c UnknownOperation)))))

-- more operations, each after a semicolon (59), as many as there is room for; a semicolon past these is a mistake
unfoldable pub more_operations : ℕ → Reading → Gathered
more_operations zero c = gathered [] (cond (eqb (next_byte c) 59) (stopped_by c TooManyOperations) c)
more_operations (suc room) c =
    let one = operation_at (past_mark c 59 TooMuch) in
    let more = with_first one.items (more_operations room one.cursor) in
    cond (eqb (next_byte c) 59) more (gathered [] c)

-- one to eight operations
unfoldable pub operations_at : Reading → Gathered
operations_at c = let one = operation_at c in with_first one.items (more_operations 7 one.cursor)

-- one number or more, each at most a bound, as many as there is room for: another follows where a digit stands next
unfoldable pub numbers_at : ℕ → Reading → ℕ → Gathered
numbers_at zero c most = gathered [] (stopped_by c TooManyNumbers)
numbers_at (suc room) c most =
    let one = number_at c most in
    let more = numbers_at room one.cursor most in
    with_first (one.value ∷ []) (cond (in_class Digit (next_byte one.cursor)) more (gathered [] one.cursor))

-- a request by title, or by numbers; a mark of a title, " (34) or ' (39), tells which
unfoldable pub title_request_at : Reading → Gathered
title_request_at c = let title = title_at c in gathered (operation_bytes 2 0 0 0 (letters_of c title)) title.cursor

unfoldable pub numbers_request_at : Reading → Gathered
numbers_request_at c = let read = numbers_at most_numbers c two_bytes in gathered (numbers_bytes read.items) read.cursor

unfoldable pub request_at : Reading → Gathered
request_at c = cond (eqb (next_byte c) 34 || eqb (next_byte c) 39) (title_request_at c) (numbers_request_at c)

-- the call, where nothing more is on the line; else the first mistake, and the next byte that is no space from where reading ended
abbrev pub call_or : Call → Option Mistake → ℕ → Call
call_or call None at = call
call_or call (Some m) at = Unreadable m at

unfoldable pub whole_call : Reading → Call → Call
whole_call c call = let end = ended_at c in call_or call end.mistake (next_place end)

-- what a line means: a call, and the bytes that belong to it
pub record Line : Type 0 where
  pub call : Call
  pub bytes : List ℕ

abbrev pub line : Call → List ℕ → Line
line call bytes = record { call = call; bytes = bytes }

-- setup: the number of studios, a colon (58), each session's studio
unfoldable pub setup_at : Reading → Line
setup_at c =
    let studios = number_at c any_number in
    let read = numbers_at most_studios (past_mark studios.cursor 58 ColonMissing) 255 in
    line (whole_call read.cursor (Setup studios.value)) (studio_bytes read.items)

-- a session's operations, and whether they are only previewed
unfoldable pub edit_call : ℕ → ℕ → Bool → Call
edit_call session operations previews = cond previews (Preview session operations) (Commit session operations)

-- commit and preview: the session, a colon, the operations
unfoldable pub edit_at : Reading → Bool → Line
edit_at c previews =
    let session = number_at c any_number in
    let read = operations_at (past_mark session.cursor 58 ColonMissing) in
    line (whole_call read.cursor (edit_call session.value (length read.items / cart_size) previews)) read.items

-- read and forward: the session, a colon, the request; and whether it is a forward, which has "read's requests" (02, S-4)
unfoldable pub read_at : Reading → Bool → Line
read_at c forwards =
    let session = number_at c any_number in
    let read = request_at (past_mark session.cursor 58 ColonMissing) in
    line (whole_call read.cursor (Read session.value forwards)) read.items

-- move, "a call that moves a session to another studio" (02, S-7): the session, the word to, the studio
unfoldable pub move_at : Reading → Call
move_at c =
    let session = number_at c any_number in
    let studio = number_at (past_word session.cursor (bytes_of "to") ToMissing) any_number in
    whole_call studio.cursor (Move session.value studio.value)

-- a call that has one number: a studio, a session, or the edit whose message goes to the van (02, S-6)
unfoldable pub number_call_at : Reading → List ℕ → Call
number_call_at c word =
    let n = number_at c any_number in
    cond (says word "send") (whole_call n.cursor (Send n.value))
    (cond (says word "refresh") (whole_call n.cursor (Refresh n.value))
    (cond (says word "collect") (whole_call n.cursor (Collect n.value))
    (cond (says word "van") (whole_call n.cursor (Van n.value))
    (Unreadable UnknownWord 0))))

-- a line, by its first word; show, load, "a load call that tests it" (02, S-8), and retire, "a retire call, returning the count
-- retired" (S-9), have nothing after it
unfoldable pub line_at : Reading → Line
line_at c =
    let word = next_word c in
    let next = moved_to c (word_end c) in
    cond (is_over c) (line Nothing [])
    (cond (says word "show") (line (whole_call next Show) [])
    (cond (says word "setup") (setup_at next)
    (cond (says word "commit") (edit_at next false)
    (cond (says word "preview") (edit_at next true)
    (cond (says word "read") (read_at next false)
    (cond (says word "forward") (read_at next true)
    (cond (says word "move") (line (move_at next) [])
    (cond (says word "load") (line (whole_call next Load) [])
    (cond (says word "retire") (line (whole_call next Retire) [])
    (line (number_call_at next word) []))))))))))

abbrev pub line_of : List ℕ → Line
line_of s = line_at (new_at s 0)

-- the same by commands: the command of a first word, and what a line of it means past that word
unfoldable pub number_command_of : List ℕ → Option Command
number_command_of word =
    cond (says word "send") (Some Command.Send)
    (cond (says word "refresh") (Some Command.Refresh)
    (cond (says word "collect") (Some Command.Collect)
    (cond (says word "van") (Some Command.Van) None)))

unfoldable pub command_of : List ℕ → Option Command
command_of word =
    cond (says word "show") (Some Command.Show)
    (cond (says word "setup") (Some Command.Setup)
    (cond (says word "commit") (Some Command.Commit)
    (cond (says word "preview") (Some Command.Preview)
    (cond (says word "read") (Some Command.Read)
    (cond (says word "forward") (Some Command.Forward)
    (cond (says word "move") (Some Command.Move)
    (cond (says word "load") (Some Command.Load)
    (cond (says word "retire") (Some Command.Retire)
    (number_command_of word)))))))))

abbrev pub number_line : Reading → (ℕ → Call) → Line
number_line c call = let n = number_at c any_number in line (whole_call n.cursor (call n.value)) []

unfoldable pub line_by : Reading → Command → Line
line_by c Command.Show = line (whole_call c Show) []
line_by c Command.Setup = setup_at c
line_by c Command.Commit = edit_at c false
line_by c Command.Preview = edit_at c true
line_by c Command.Read = read_at c false
line_by c Command.Forward = read_at c true
line_by c Command.Move = line (move_at c) []
line_by c Command.Load = line (whole_call c Load) []
line_by c Command.Retire = line (whole_call c Retire) []
line_by c Command.Send = number_line c Send
line_by c Command.Refresh = number_line c Refresh
line_by c Command.Collect = number_line c Collect
line_by c Command.Van = number_line c Van

-- memory whose start is these bytes or numbers, the rest of it as it was
abbrev pub begun_with : List ℕ → List ℕ → List ℕ
begun_with items memory = items ++ drop (length items) memory

-- the call of a line, and what a payload becomes
abbrev pub call_of : List ℕ → Call
call_of s = (line_of s).call

abbrev pub payload_of : List ℕ → List ℕ → List ℕ
payload_of s payload = begun_with (line_of s).bytes payload

-- a commit and a preview have one to eight operations
abbrev pub call_fits : Call → Type 0
call_fits Nothing = Unit {0}
call_fits Show = Unit {0}
call_fits (Setup n) = Unit {0}
call_fits (Commit s n) = (1 ≤ n) × (n ≤ 8)
call_fits (Preview s n) = (1 ≤ n) × (n ≤ 8)
call_fits (Send n) = Unit {0}
call_fits (Refresh n) = Unit {0}
call_fits (Read s forwards) = Unit {0}
call_fits (Collect n) = Unit {0}
call_fits (Move s i) = Unit {0}
call_fits Load = Unit {0}
call_fits Retire = Unit {0}
call_fits (Van n) = Unit {0}
call_fits (Unreadable m at) = Unit {0}

-- memory before and after a line was read in it: r is the line's call
pub record Means (l : Line) (memory memory' : List ℕ) (r : Call) : Type 0 where
  pub call : r ≡ l.call
  pub payload : memory' ≡ begun_with l.bytes memory
  pub fits : call_fits r

-- memory before and after items of a size were gathered in it: n is their number, c the cursor after them
pub record Stored (size : ℕ) (g : Gathered) (memory memory' : List ℕ) (n : ℕ) (c : Reading) : Type 0 where
  pub items : memory' ≡ begun_with g.items memory
  pub count : length g.items ≡ size * n
  pub cursor : c ≡ g.cursor
