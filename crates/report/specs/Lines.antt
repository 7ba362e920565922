-- The lines that tell carts, the state and the whole transcript.
use Rattle.std.specs.Prelude.{cond, List, [], ◌++◌, ℕ, eqb}
use Rattle.carts.specs.Bytes.{byte, u16}
use Rattle.carts.specs.Cart.{cart_fields, title_at}
use Rattle.lines.specs.Text.{part_in}
use Rattle.lines.specs.Words.{bytes_of}
use Rattle.journal.specs.declared.progress.Tally.{Tally}
use Rattle.words.specs.Answers.{behind_text}
use Rattle.words.specs.Page.{decimal, numbered, count_of, quoted}
use Rattle.words.specs.Request.{asked_numbers}

-- a held cart, by the fields in its 80 bytes; its title stands from byte 16 on
unfoldable pub recording_text : ℕ → ℕ → List ℕ
recording_text audio milliseconds = numbered ", audio " audio ++ numbered ", length " milliseconds ++ bytes_of " ms\n"

unfoldable pub cart_text : List ℕ → List ℕ
cart_text cart =
    let fields = cart_fields cart in
    numbered "    cart " fields.number ++ bytes_of " " ++ quoted (part_in cart title_at fields.title_length)
    ++ recording_text fields.audio fields.milliseconds

-- a cart that was asked for and is empty; a copy in which no cart is held
unfoldable pub empty_text : ℕ → List ℕ
empty_text n = numbered "    cart " n ++ bytes_of " is empty\n"

unfoldable pub no_cart_text : List ℕ
no_cart_text = bytes_of "    no cart is held\n"

-- there is no system; the head end's counts, of its edits also how many are retired (02, S-9), where any are; a studio's counts
unfoldable pub no_system_text : List ℕ
no_system_text = bytes_of "  there is no system yet\n"

unfoldable pub retired_part : ℕ → List ℕ
retired_part retired = cond (eqb retired 0) [] (numbered ", " retired ++ bytes_of " retired")

unfoldable pub head_text : ℕ → ℕ → ℕ → List ℕ
head_text commits retired used =
    bytes_of "  head end: " ++ count_of commits (bytes_of "edit") ++ retired_part retired ++ numbered ", " used ++ bytes_of " of 512 log records\n"

unfoldable pub studio_text : ℕ → ℕ → ℕ → ℕ → List ℕ
studio_text i sent applied behind = numbered "  studio " i ++ numbered ": sent " sent ++ numbered ", applied " applied ++ behind_text behind ++ bytes_of "\n"

-- how many edits the van has applied
unfoldable pub van_text : ℕ → ℕ → List ℕ
van_text applied behind = numbered "  van: applied " applied ++ behind_text behind ++ bytes_of "\n"

-- the edit that a session's read waits for is the session's number
unfoldable pub until_text : List ℕ → List ℕ
until_text own = numbered " waits for edit " (u16 own 2) ++ bytes_of "\n"

-- the read that a session has waiting, by byte 0 of its 80 bytes: 1 for so many numbers as byte 1 says, 2 for a title of so many letters
unfoldable pub waiting_text : List ℕ → List ℕ
waiting_text own =
    cond (eqb (byte own 0) 1) (bytes_of ", its read of carts" ++ asked_numbers own (byte own 1) ++ until_text own)
    (cond (eqb (byte own 0) 2) (bytes_of ", its read of title " ++ quoted (part_in own title_at (byte own 1)) ++ until_text own)
    (bytes_of ", nothing waits\n"))

-- a session at a studio: its number in bytes 2 and 3, and its waiting read
unfoldable pub session_text : ℕ → ℕ → List ℕ → List ℕ
session_text j studio own = numbered "  session " j ++ numbered " at studio " studio ++ numbered ": number " (u16 own 2) ++ waiting_text own

-- reads that wait when the transcript ends
unfoldable pub still_waiting_text : List ℕ
still_waiting_text = bytes_of "Reads that still wait:\n"

-- a line's number, before the line itself; the text was cut after a line
unfoldable pub echo_text : ℕ → List ℕ
echo_text line = decimal line ++ bytes_of ": "

unfoldable pub cut_text : ℕ → List ℕ
cut_text line = numbered "\nLEFT OUT: the lines after line " line ++ bytes_of ": the transcript has more than 65536 bytes\n"

-- how many lines there were, and what came of them
unfoldable pub tally_text : Tally → List ℕ
tally_text tally =
    numbered "; calls accepted " tally.accepted ++ numbered ", waited " tally.waited ++ numbered ", refused " tally.refused
    ++ numbered "; lines that could not be read " tally.unreadable

unfoldable pub summary_text : ℕ → Tally → List ℕ
summary_text lines tally = bytes_of "\nSummary: " ++ count_of lines (bytes_of "line") ++ tally_text tally ++ bytes_of "\n"

-- no line was a call; the input is no text
unfoldable pub no_call_text : List ℕ
no_call_text = bytes_of "No call was made: no line of the input is a call\n"

unfoldable pub no_text_text : List ℕ
no_text_text = bytes_of "The input is no text: it has a zero byte or a byte-order mark of UTF-16. Nothing was played\n"
