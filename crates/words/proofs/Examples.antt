-- WORKED EXAMPLES of numbers and answers as text, by computation.
use mathlib.Core.Path.{◌≡◌, refl}
use mathlib.Core.List.{[], ◌∷◌}
use Rattle.carts.specs.Bytes.{within}
use Rattle.carts.specs.Cart.{printable}
use Rattle.lines.specs.Words.{bytes_of}
use Rattle.words.specs.Page.{digits_of, decimal, count_of, hex_digit, shown_byte, shown_to, shown}
use Rattle.words.specs.Answers.{fresh_text, previewed_text, sent_text, behind_text, answered_text, head_end_text, moved_text, whole_text, free_text, retired_text, van_applied_text, van_holds_text}

pub record Numbers : Type 0 where
  zero : decimal 0 ≡ bytes_of "0"
  ten : decimal 10 ≡ bytes_of "10"
  largest_u32 : decimal 4294967295 ≡ bytes_of "4294967295"
  largest_u64 : decimal 18446744073709551615 ≡ bytes_of "18446744073709551615"
  one_studio : count_of 1 (bytes_of "studio") ≡ bytes_of "1 studio"
  two_studios : count_of 2 (bytes_of "studio") ≡ bytes_of "2 studios"
  no_studio : count_of 0 (bytes_of "studio") ≡ bytes_of "0 studios"

pub numbers : Numbers
unfolding digits_of decimal count_of
numbers = record {
  zero = refl;
  ten = refl;
  largest_u32 = refl;
  largest_u64 = refl;
  one_studio = refl;
  two_studios = refl;
  no_studio = refl;
}

pub record Answers : Type 0 where
  fresh : fresh_text 2 ≡ bytes_of "  a fresh system with 2 studios\n"
  previewed : previewed_text 5 ≡ bytes_of "  would be edit 5\n"
  sent : sent_text 3 1 ≡ bytes_of "  edit 3 is sent to studio 1\n"
  answered : answered_text 2 0 1 ≡ bytes_of "  answered at edit 2, level with the head end, found 1:\n"
  answered_behind : answered_text 1 2 0 ≡ bytes_of "  answered at edit 1, 2 behind the head end, found 0:\n"
  by_head_end : head_end_text 5 1 ≡ bytes_of "  answered by the head end at edit 5, found 1:\n"
  moved : moved_text 1 2 ≡ bytes_of "  session 1 is at studio 2\n"
  whole : whole_text 5 ≡ bytes_of "  the wall is whole at edit 5\n"
  whole_fresh : whole_text 0 ≡ bytes_of "  the wall is whole at edit 0\n"
  retired : retired_text 1 1 ≡ bytes_of "  edit 1 is retired, 511 records are free\n"
  retired_from_full : retired_text 65535 511 ≡ bytes_of "  edit 65535 is retired, 1 record is free\n"
  retired_all : retired_text 3 0 ≡ bytes_of "  edit 3 is retired, 512 records are free\n"
  van_applied : van_applied_text 3 ≡ bytes_of "  the van has applied edit 3\n"
  van_holds : van_holds_text 3 ≡ bytes_of "  the van holds edit 3 already\n"
  bytes_shown : shown (99 ∷ 9 ∷ 195 ∷ 10 ∷ []) ≡ bytes_of "c\t\\xC3\\x0A"

pub answers : Answers
unfolding within printable digits_of decimal count_of hex_digit shown_byte shown_to shown fresh_text previewed_text sent_text behind_text answered_text head_end_text moved_text whole_text free_text retired_text van_applied_text van_holds_text
answers = record {
  fresh = refl;
  previewed = refl;
  sent = refl;
  answered = refl;
  answered_behind = refl;
  by_head_end = refl;
  moved = refl;
  whole = refl;
  whole_fresh = refl;
  retired = refl;
  retired_from_full = refl;
  retired_all = refl;
  van_applied = refl;
  van_holds = refl;
  bytes_shown = refl;
}
