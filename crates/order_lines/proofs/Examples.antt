-- WORKED EXAMPLES of the lines of an order, by computation.
use mathlib.Core.Path.{◌≡◌, refl}
use mathlib.Core.List.{[], ◌∷◌}
use Rattle.carts.specs.Bytes.{zeros, u16, u32, u16_bytes}
use Rattle.lines.specs.Build.{u32_bytes, title_field, operation_bytes, u16_list, numbers_bytes}
use Rattle.lines.specs.Words.{bytes_of}
use Rattle.journal.specs.History.{commit_kind, read_kind, refused_kind}
use Rattle.words.specs.Page.{digits_of, decimal, count_of, quoted}
use Rattle.words.specs.Request.{asked_numbers}
use Rattle.order_lines.specs.Order.{refusals_text, order_text, place_text, edit_text, operation_text, request_text, asked_text, reason_text, shown_text, unlike_text, verdict_text}

pub record Lines : Type 0 where
  heading : order_text 3 0 2 ≡ bytes_of "One-copy order of 3 edits and 2 reads:\n"
  with_a_refusal : order_text 3 1 2 ≡ bytes_of "One-copy order of 3 edits, 1 refusal (8) and 2 reads:\n"
  edit : edit_text (record { kind = commit_kind; line = 5; session = 1; number = 3; found = 0; first = 0; slots = 1 }) ≡ bytes_of "  line 5, session 1: edit 3:"
  refused : edit_text (record { kind = refused_kind; line = 12; session = 2; number = 3; found = 0; first = 0; slots = 1 }) ≡ bytes_of "  line 12, session 2: refused (8) at edit 3:"
  operation : operation_text (operation_bytes 3 20 501 8000 []) ≡ bytes_of " re-cut cart 20"
  asked : asked_text (record { kind = read_kind; line = 6; session = 2; number = 2; found = 1; first = 1; slots = 2 }) (numbers_bytes (7 ∷ [])) ≡ bytes_of "  line 6, session 2: asked for carts 7"
  stands_earlier : shown_text (record { kind = read_kind; line = 6; session = 2; number = 2; found = 1; first = 1; slots = 2 }) (record { kind = commit_kind; line = 5; session = 1; number = 3; found = 0; first = 0; slots = 1 }) ≡ bytes_of ", shown edit 2 (found 1), so it stands before edit 3 of line 5"
  all_same : verdict_text 2 2 0 ≡ bytes_of "  2 answers, each the same on a single library\n"
  one_differs : verdict_text 2 2 1 ≡ bytes_of "  2 answers compared, 1 different; 2 were to be compared\n"

pub lines : Lines
unfolding zeros u16 u32 u16_bytes u32_bytes title_field operation_bytes u16_list numbers_bytes digits_of decimal count_of quoted asked_numbers refusals_text order_text place_text edit_text operation_text request_text asked_text reason_text shown_text unlike_text verdict_text
lines = record {
  heading = refl;
  with_a_refusal = refl;
  edit = refl;
  refused = refl;
  operation = refl;
  asked = refl;
  stands_earlier = refl;
  all_same = refl;
  one_differs = refl;
}
