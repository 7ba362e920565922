-- WORKED EXAMPLES of the grammar, by computation: lines with their calls and bytes, and lines that cannot be read with the place of the mistake.
use mathlib.Core.Path.{◌≡◌, refl}
use mathlib.Core.Bool.{true, false}
use mathlib.Core.List.{[], ◌∷◌, ◌++◌}
use Rattle.carts.specs.Bytes.{zeros, u16_bytes, within, pairwise, every}
use Rattle.carts.specs.Cart.{printable}
use Rattle.lines.specs.declared.cursor.Mistake.TheVariants.{UnknownWord, UnknownOperation, NumberMissing, NumberTooLarge, ColonMissing, AudioMissing, LengthMissing, ToMissing, TitleMissing, TitleOpen, TitleEmpty, TooManyOperations, TooManyNumbers, TooMuch}
use Rattle.lines.specs.declared.parse.Call.TheVariants.{Nothing, Show, Setup, Commit, Preview, Send, Refresh, Read, Collect, Move, Load, Retire, Van, Unreadable}
use Rattle.lines.specs.Text.{run_length, numeral, number_of}
use Rattle.lines.specs.Cursor.{past_word, past_mark, number_at, title_from, title_at, is_over, ended_at}
use Rattle.lines.specs.Words.{bytes_of}
use Rattle.lines.specs.Build.{u32_bytes, title_field, operation_bytes, u16_list, numbers_bytes, low_bytes, studio_bytes}
use Rattle.lines.specs.Parse.{title_if, number_if, fields_at, operation_at, more_operations, operations_at, numbers_at, title_request_at, numbers_request_at, request_at, whole_call, line, setup_at, edit_call, edit_at, read_at, move_at, number_call_at, line_at, line_of, call_of}

pub record Calls : Type 0 where
  comment : line_of (bytes_of "# words") ≡ line Nothing []
  show : line_of (bytes_of "show # all copies") ≡ line Show []
  setup : line_of (bytes_of "setup 2: 1 1 2") ≡ line (Setup 2) (1 ∷ 1 ∷ 2 ∷ zeros 13)
  send : line_of (bytes_of "send 1") ≡ line (Send 1) []
  refresh : line_of (bytes_of "refresh 2") ≡ line (Refresh 2) []
  collect : line_of (bytes_of "  collect\t16") ≡ line (Collect 16) []
  move : line_of (bytes_of "move 1 to 2 # with the running order") ≡ line (Move 1 2) []
  move_anywhere : line_of (bytes_of "move\t4294967295 to 0") ≡ line (Move 4294967295 0) []
  load : line_of (bytes_of "\tload # after a restart") ≡ line Load []
  retire : line_of (bytes_of "retire\t# the week before last") ≡ line Retire []
  van : line_of (bytes_of "van 4294967295 # no such edit") ≡ line (Van 4294967295) []
  by_numbers_law : line_of (bytes_of "read 1: 7 300") ≡ line (Read 1 false) (1 ∷ 2 ∷ zeros 14 ++ (7 ∷ 0 ∷ 44 ∷ 1 ∷ zeros 60))
  by_title_law : line_of (bytes_of "read 1: 'A \"B\"'") ≡ line (Read 1 false) (2 ∷ 5 ∷ zeros 14 ++ (65 ∷ 32 ∷ 34 ∷ 66 ∷ 34 ∷ zeros 59))
  forward_numbers : line_of (bytes_of "forward 17: 7 300") ≡ line (Read 17 true) (1 ∷ 2 ∷ zeros 14 ++ (7 ∷ 0 ∷ 44 ∷ 1 ∷ zeros 60))
  forward_title : line_of (bytes_of "forward 1: \"Hour\" # ten seconds left") ≡ line (Read 1 true) (2 ∷ 4 ∷ zeros 14 ++ (bytes_of "Hour" ++ zeros 60))
  commit : line_of (bytes_of "commit 1: new 7 \"Hour\" audio 501 length 8000; retitle 7 \"B\"; re-cut 7 audio 2 length 3; withdraw 7") ≡ line (Commit 1 4) (operation_bytes 1 7 501 8000 (bytes_of "Hour") ++ (operation_bytes 2 7 0 0 (bytes_of "B") ++ (operation_bytes 3 7 2 3 [] ++ operation_bytes 4 7 0 0 [])))
  preview : line_of (bytes_of "preview 17: retitle 7 \"B\"; withdraw 7 # nothing is made") ≡ line (Preview 17 2) (operation_bytes 2 7 0 0 (bytes_of "B") ++ operation_bytes 4 7 0 0 [])

pub calls : Calls
unfolding zeros u16_bytes pairwise every within printable run_length numeral number_of past_word past_mark number_at title_from title_at is_over ended_at u32_bytes title_field operation_bytes u16_list numbers_bytes low_bytes studio_bytes title_if number_if fields_at operation_at more_operations operations_at numbers_at title_request_at numbers_request_at request_at whole_call setup_at edit_call edit_at read_at move_at number_call_at line_at
calls = record {
  comment = refl;
  show = refl;
  setup = refl;
  send = refl;
  refresh = refl;
  collect = refl;
  move = refl;
  move_anywhere = refl;
  load = refl;
  retire = refl;
  van = refl;
  by_numbers_law = refl;
  by_title_law = refl;
  forward_numbers = refl;
  forward_title = refl;
  commit = refl;
  preview = refl;
}

pub record Mistakes : Type 0 where
  unknown_word : call_of (bytes_of "sent 1") ≡ Unreadable UnknownWord 0
  unknown_operation : call_of (bytes_of "commit 1: recut 7") ≡ Unreadable UnknownOperation 10
  number_missing : call_of (bytes_of "send") ≡ Unreadable NumberMissing 4
  number_large : call_of (bytes_of "send 4294967296") ≡ Unreadable NumberTooLarge 5
  move_nobody : call_of (bytes_of "move to 2") ≡ Unreadable NumberMissing 5
  move_without_to : call_of (bytes_of "move 1 2") ≡ Unreadable ToMissing 7
  move_nowhere : call_of (bytes_of "move 1 to") ≡ Unreadable NumberMissing 9
  move_two : call_of (bytes_of "move 1 to 2 3") ≡ Unreadable TooMuch 12
  load_number : call_of (bytes_of "load 5") ≡ Unreadable TooMuch 5
  retire_number : call_of (bytes_of "retire 1") ≡ Unreadable TooMuch 7
  van_edits : call_of (bytes_of "van 1 2") ≡ Unreadable TooMuch 6
  colon_missing : call_of (bytes_of "read 1 7") ≡ Unreadable ColonMissing 7
  forward_unreadable : call_of (bytes_of "forward 1") ≡ Unreadable ColonMissing 9
  preview_unreadable : call_of (bytes_of "preview 1 withdraw 7") ≡ Unreadable ColonMissing 10
  audio_missing : call_of (bytes_of "commit 1: re-cut 7") ≡ Unreadable AudioMissing 18
  length_missing : call_of (bytes_of "commit 1: re-cut 7 audio 2") ≡ Unreadable LengthMissing 26
  title_missing : call_of (bytes_of "commit 1: retitle 7 B") ≡ Unreadable TitleMissing 20
  title_open : call_of (bytes_of "read 1: \"B") ≡ Unreadable TitleOpen 8
  title_empty : call_of (bytes_of "read 1: \"\"") ≡ Unreadable TitleEmpty 8
  nine_operations : call_of (bytes_of "commit 1: withdraw 1; withdraw 2; withdraw 3; withdraw 4; withdraw 5; withdraw 6; withdraw 7; withdraw 8; withdraw 9") ≡ Unreadable TooManyOperations 104
  seventeen_sessions : call_of (bytes_of "setup 1: 1 1 1 1 1 1 1 1 1 1 1 1 1 1 1 1 1") ≡ Unreadable TooManyNumbers 41
  too_much : call_of (bytes_of "send 1 2") ≡ Unreadable TooMuch 7

pub mistakes : Mistakes
unfolding zeros u16_bytes pairwise every within printable run_length numeral number_of past_word past_mark number_at title_from title_at is_over ended_at u32_bytes title_field operation_bytes u16_list numbers_bytes low_bytes studio_bytes title_if number_if fields_at operation_at more_operations operations_at numbers_at title_request_at numbers_request_at request_at whole_call setup_at edit_call edit_at read_at move_at number_call_at line_at
mistakes = record {
  unknown_word = refl;
  unknown_operation = refl;
  number_missing = refl;
  number_large = refl;
  move_nobody = refl;
  move_without_to = refl;
  move_nowhere = refl;
  move_two = refl;
  load_number = refl;
  retire_number = refl;
  van_edits = refl;
  colon_missing = refl;
  forward_unreadable = refl;
  preview_unreadable = refl;
  audio_missing = refl;
  length_missing = refl;
  title_missing = refl;
  title_open = refl;
  title_empty = refl;
  nine_operations = refl;
  seventeen_sessions = refl;
  too_much = refl;
}
