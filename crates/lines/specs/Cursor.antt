-- Cursors over a line, and titles in it.
use Rattle.std.specs.Prelude.{◌≡◌, Bool, true, false, cond, not, ◌&&◌, ◌||◌, List, ℕ, ◌+◌, ◌-◌, ◌<◌, ◌≤◌, length, eqb, leb, ltb, Option, Some, None, Result, Ok, Err}
use Rattle.carts.specs.Bytes.{byte, part, pairwise, every}
use Rattle.carts.specs.Cart.{printable}
use Rattle.lines.specs.declared.text.Class.TheVariants.{Space, Word, Digit, Other}
use Rattle.lines.specs.declared.text.NumberError.{NumberError}
use Rattle.lines.specs.declared.text.NumberError.TheVariants.{Missing, TooLarge}
use Rattle.lines.specs.declared.cursor.Mistake.{Mistake}
use Rattle.lines.specs.declared.cursor.Mistake.TheVariants.{NumberMissing, NumberTooLarge, TitleMissing, TitleOpen, TitleEmpty, TitleTooLong, TitleUnprintable, TooMuch}
use Rattle.lines.specs.Text.{run_end, part_in, number_of}

-- what a cursor is: its line, the place of the next byte, and the first mistake, where something was wrong
pub record Reading : Type 0 where
  pub line : List ℕ
  pub at : ℕ
  pub mistake : Option Mistake

abbrev pub reading : List ℕ → ℕ → Option Mistake → Reading
reading line at mistake = record { line = line; at = at; mistake = mistake }

abbrev pub is_good : Reading → Bool
is_good c = elim c.mistake [ None ↦ true | Some m ↦ false ]

-- a cursor with no mistake; the cursor at another place, and after a mistake where that was
abbrev pub new_at : List ℕ → ℕ → Reading
new_at line at = reading line at None

abbrev pub moved_to : Reading → ℕ → Reading
moved_to c at = cond (is_good c) (reading c.line at None) c

-- the cursor with a mistake; the first is kept
abbrev pub stopped_by : Reading → Mistake → Reading
stopped_by c m = cond (is_good c) (reading c.line c.at (Some m)) c

-- the place of the next byte that is no space; the byte there, 0 at the line's end; the word there, and its end
abbrev pub next_place : Reading → ℕ
next_place c = run_end c.line c.at Space

abbrev pub next_byte : Reading → ℕ
next_byte c = byte c.line (next_place c)

abbrev pub word_end : Reading → ℕ
word_end c = run_end c.line (next_place c) Word

abbrev pub next_word : Reading → List ℕ
next_word c = part_in c.line (next_place c) (word_end c - next_place c)

-- past what was expected, where it is there; else the mistake
unfoldable pub past_word : Reading → List ℕ → Mistake → Reading
past_word c expected m = cond (pairwise eqb (next_word c) expected) (moved_to c (word_end c)) (stopped_by c m)

unfoldable pub past_mark : Reading → ℕ → Mistake → Reading
past_mark c expected m =
    let at = next_place c in
    cond (ltb at (length c.line)) (cond (eqb (byte c.line at) expected) (moved_to c (at + 1)) (stopped_by c m)) (stopped_by c m)

-- a number that was read, 0 where it could not be; and the number of the digits that stand next
pub record Taken : Type 0 where
  pub value : ℕ
  pub cursor : Reading

abbrev pub number_mistake : NumberError → Mistake
number_mistake Missing = NumberMissing
number_mistake TooLarge = NumberTooLarge

abbrev pub digits_end : Reading → ℕ
digits_end c = run_end c.line (next_place c) Digit

abbrev pub taken : Reading → ℕ → Result ℕ NumberError → Taken
taken c end (Ok v) = record { value = v; cursor = moved_to c end }
taken c end (Err e) = record { value = 0; cursor = stopped_by c (number_mistake e) }

unfoldable pub number_at : Reading → ℕ → Taken
number_at c most = taken c (digits_end c) (number_of most (part_in c.line (next_place c) (digits_end c - next_place c)))

-- nothing more, or a comment
unfoldable pub is_over : Reading → Bool
is_over c = leb (length c.line) (next_place c) || eqb (next_byte c) 35

unfoldable pub ended_at : Reading → Reading
ended_at c = cond (is_over c) c (stopped_by c TooMuch)

-- a title that was read, by its place in the line, its length 0 where it could not be; and no title, for a reason
pub record Quoted : Type 0 where
  pub start : ℕ
  pub length : ℕ
  pub cursor : Reading

abbrev pub no_title : Reading → Mistake → Quoted
no_title c m = record { start = 0; length = 0; cursor = stopped_by c m }

-- the bytes from `start` to the mark at `end` as a title
unfoldable pub title_from : Reading → ℕ → ℕ → Quoted
title_from c start end =
    let n = end - start in
    cond (leb (length c.line) end) (no_title c TitleOpen)
    (cond (eqb n 0) (no_title c TitleEmpty)
    (cond (ltb 255 n) (no_title c TitleTooLong)
    (cond (not (every printable (part c.line start n))) (no_title c TitleUnprintable)
    (record { start = start; length = n; cursor = moved_to c (end + 1) }))))

-- a title between two marks of one kind, " (34) or ' (39), by its place in the line
unfoldable pub title_at : Reading → Quoted
title_at c =
    let at = next_place c in
    let mark = byte c.line at in
    cond (not (eqb mark 34) && not (eqb mark 39)) (no_title c TitleMissing) (title_from c (at + 1) (run_end c.line (at + 1) (Other mark)))

-- the letters of a title that was read
abbrev pub letters_of : Reading → Quoted → List ℕ
letters_of c q = part c.line q.start q.length

-- n letters of a title, printable and few enough that their number fits a byte, stand in the line from `start` on
pub record Titled (s : List ℕ) (start n : ℕ) : Type 0 where
  pub inside : start + n ≤ length s
  pub few : n < 256
  pub letters : every printable (part s start n) ≡ true
