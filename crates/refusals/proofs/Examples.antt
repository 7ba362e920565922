-- WORKED EXAMPLES of refusals and mistakes as text, by computation.
use Rattle.std.proofs.Common.{◌≡◌, true, false, refl}
use Rattle.lines.specs.declared.cursor.Mistake.TheVariants.{NumberMissing, ToMissing}
use Rattle.lines.specs.Words.{bytes_of}
use Rattle.words.specs.Page.{digits_of, decimal, count_of}
use Rattle.refusals.specs.Sentences.{refusal_sentence}
use Rattle.refusals.specs.Refusals.{lead_of, refusal_text, no_session_text, no_edit_text, retired_edit_text, ahead_text, at_operation_text, unreadable_text}

pub record Refusals : Type 0 where
  refused : refusal_text false 9 ≡ bytes_of "  refused (9): every edit has been sent to this studio\n"
  not_whole : refusal_text false 19 ≡ bytes_of "  refused (19): a copy is not what the log's edits make, or an operation in the log met its cart in the wrong state\n"
  no_room : refusal_text true 7 ≡ bytes_of "  would be refused (7): the log has no room for these operations until edits are retired, or all 65,535 edit numbers are used\n"
  still_needed : refusal_text false 20 ≡ bytes_of "  refused (20): the log has no edit to retire, or a studio has not applied the oldest one; refresh that studio first\n"
  unnamed : refusal_text false 22 ≡ bytes_of "  refused (22): unknown\n"
  previewed : refusal_text true 4 ≡ bytes_of "  would be refused (4): a read of this session is waiting; collect it first\n"
  spaced : refusal_text true 16 ≡ bytes_of "  would be refused (16): the title begins or ends with a space\n"
  no_session : no_session_text true 17 ≡ bytes_of "  would be refused (3): there is no session 17, or it is unused\n"
  no_edit : no_edit_text 9 ≡ bytes_of "  refused (17): there is no edit 9\n"
  retired_edit : retired_edit_text 1 ≡ bytes_of "  refused (21): edit 1 is retired, and its message can no longer be written\n"
  ahead : ahead_text 1 3 ≡ bytes_of "  refused (18): the van has applied 1 edit, and edit 3 is not the next\n"
  unreadable : unreadable_text 3 5 NumberMissing ≡ bytes_of "  line 3, column 5 cannot be read: a number is missing\n"
  without_to : unreadable_text 4 8 ToMissing ≡ bytes_of "  line 4, column 8 cannot be read: the word to is missing\n"
  operation : at_operation_text 2 8 ≡ bytes_of "    it is operation 2 of the commit, on cart 8\n"

pub refusals : Refusals
unfolding digits_of decimal count_of refusal_sentence lead_of refusal_text no_session_text no_edit_text retired_edit_text ahead_text at_operation_text unreadable_text
refusals = record {
  refused = refl;
  not_whole = refl;
  no_room = refl;
  still_needed = refl;
  unnamed = refl;
  previewed = refl;
  spaced = refl;
  no_session = refl;
  no_edit = refl;
  retired_edit = refl;
  ahead = refl;
  unreadable = refl;
  without_to = refl;
  operation = refl;
}
