-- WORKED EXAMPLES of the lines, by computation.
use mathlib.Core.Path.{◌≡◌, refl}
use mathlib.Core.List.{[], ◌∷◌, ◌++◌}
use mathlib.Core.Bool.{true, false}
use Rattle.carts.specs.Bytes.{zeros, u16, u32, u16_bytes, within}
use Rattle.carts.specs.Cart.{held, cart_fields}
use Rattle.lines.specs.Build.{u32_bytes, title_field, operation_bytes, u16_list, numbers_bytes}
use Rattle.lines.specs.Words.{bytes_of}
use Rattle.replication.specs.Memory.{studio_of}
use Rattle.replication.specs.Rows.{session_row}
use Rattle.replication.specs.Calls.{control}
use Rattle.replication.specs.declared.control.Control.{Control}
use Rattle.words.specs.Answers.{behind_text, answered_text, head_end_text}
use Rattle.words.specs.Page.{digits_of, decimal, count_of, quoted}
use Rattle.words.specs.Request.{asked_numbers}
use Rattle.report.specs.Answered.{applied_for, answer_text}
use Rattle.report.specs.Known.{known_session}
use Rattle.report.specs.Lines.{recording_text, cart_text, retired_part, head_text, van_text, until_text, waiting_text, session_text, cut_text, tally_text, summary_text}

-- a held cart has the bytes of the operation that made it
pub record Lines : Type 0 where
  cart : cart_text (operation_bytes 1 7 501 8000 (bytes_of "Hour")) ≡ bytes_of "    cart 7 \"Hour\", audio 501, length 8000 ms\n"
  head_end : head_text 1 0 4 ≡ bytes_of "  head end: 1 edit, 4 of 512 log records\n"
  head_end_retired : head_text 600 100 512 ≡ bytes_of "  head end: 600 edits, 100 retired, 512 of 512 log records\n"
  van : van_text 1 2 ≡ bytes_of "  van: applied 1, 2 behind the head end\n"
  van_level : van_text 3 0 ≡ bytes_of "  van: applied 3, level with the head end\n"
  nothing_waits : session_text 1 2 (zeros 2 ++ (u16_bytes 300 ++ zeros 76)) ≡ bytes_of "  session 1 at studio 2: number 300, nothing waits\n"
  numbers_wait : session_text 1 2 (numbers_bytes (7 ∷ 128 ∷ [])) ≡ bytes_of "  session 1 at studio 2: number 0, its read of carts 7 128 waits for edit 0\n"
  title_waits : session_text 16 1 (operation_bytes 2 0 0 0 (bytes_of "Hour")) ≡ bytes_of "  session 16 at studio 1: number 0, its read of title \"Hour\" waits for edit 0\n"
  cut : cut_text 900 ≡ bytes_of "\nLEFT OUT: the lines after line 900: the transcript has more than 65536 bytes\n"
  summary : summary_text 9 (record { accepted = 5; waited = 1; refused = 2; unreadable = 0; same = true }) ≡ bytes_of "\nSummary: 9 lines; calls accepted 5, waited 1, refused 2; lines that could not be read 0\n"

pub lines : Lines
unfolding zeros u16 u32 u16_bytes held cart_fields u32_bytes title_field operation_bytes u16_list numbers_bytes digits_of decimal count_of quoted recording_text cart_text retired_part head_text behind_text van_text asked_numbers until_text waiting_text session_text cut_text tally_text summary_text
lines = record {
  cart = refl;
  head_end = refl;
  head_end_retired = refl;
  van = refl;
  van_level = refl;
  nothing_waits = refl;
  numbers_wait = refl;
  title_waits = refl;
  cut = refl;
  summary = refl;
}

-- five edits, of which studio 1 has applied four and studio 2 all; sessions 1 and 2 at studio 1, session 3 at studio 2
abbrev five : Control
five = control 2 (1 ∷ 1 ∷ 2 ∷ zeros 13) 5 5 (5 ∷ 5 ∷ 0 ∷ 0 ∷ []) (4 ∷ 5 ∷ 0 ∷ 0 ∷ []) 0 1 6 512

pub record Answers : Type 0 where
  by_studio : answer_text five 2 4 1 ≡ bytes_of "  answered at edit 4, 1 behind the head end, found 1:\n"
  by_head_end : answer_text five 2 5 1 ≡ bytes_of "  answered by the head end at edit 5, found 1:\n"
  by_level_studio : answer_text five 3 5 1 ≡ bytes_of "  answered at edit 5, level with the head end, found 1:\n"

pub answers : Answers
unfolding zeros within studio_of digits_of decimal behind_text answered_text head_end_text applied_for answer_text
answers = record { by_studio = refl; by_head_end = refl; by_level_studio = refl }

pub record Sessions : Type 0 where
  used : known_session five 3 ≡ true
  unused : known_session five 4 ≡ false
  none : known_session five 0 ≡ false
  outside : known_session five 17 ≡ false

pub sessions : Sessions
unfolding zeros within studio_of session_row known_session
sessions = record { used = refl; unused = refl; none = refl; outside = refl }
