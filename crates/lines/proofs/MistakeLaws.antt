-- Laws of mistakes: what the grammar tells of a line that is no call is never None, which stands for a caller's own cursors.
use Prim.Native.Nat.{ℕ, zero, suc, ◌+◌, ◌-◌}
use mathlib.Core.Path.{◌≡◌, refl, sym, ap, ◌∙◌}
use mathlib.Core.Bool.{Bool, true, false, cond, false≢true}
use mathlib.Core.List.{List}
use Rattle.std.specs.Prelude.{Option, Some, None, Result, Ok, Err, length, eqb, ltb}
use Rattle.carts.specs.Cart.{cart_size}
use Rattle.carts.specs.Bytes.{byte, zeros}
use Rattle.carts.specs.declared.kind.Kind.{Kind}
use Rattle.carts.proofs.TestLaws.{by_cond}
use Rattle.lines.specs.declared.text.NumberError.{NumberError}
use Rattle.lines.specs.declared.text.NumberError.TheVariants.{Missing, TooLarge}
use Rattle.lines.specs.declared.cursor.Mistake.{Mistake}
use Rattle.lines.specs.declared.cursor.Mistake.TheVariants.{UnknownWord, UnknownOperation, NumberMissing, NumberTooLarge, ColonMissing, AudioMissing, LengthMissing, ToMissing, TitleMissing, TitleOpen, TitleEmpty, TitleTooLong, TitleUnprintable, TooManyOperations, TooManyNumbers, TooMuch}
use Rattle.lines.specs.declared.keyword.Command.{Command}
use Rattle.lines.specs.declared.parse.Call.{Call}
use Rattle.lines.specs.declared.parse.Call.TheVariants.{Nothing, Show, Setup, Commit, Preview, Send, Refresh, Read, Collect, Move, Load, Retire, Van, Unreadable}
use Rattle.lines.specs.Text.{number_of, part_in}
use Rattle.lines.specs.Cursor.{Reading, Taken, Quoted, reading, is_good, new_at, moved_to, stopped_by, next_place, next_word, word_end, past_word, past_mark, digits_end, taken, number_at, number_mistake, no_title, title_from, title_at, is_over, ended_at}
use Rattle.lines.specs.Words.{bytes_of}
use Rattle.lines.specs.Parse.{any_number, two_bytes, Gathered, gathered, kind_of, kind_byte, has_title, has_recording, command_of, line_by, number_line, title_if, number_if, fields_at, operation_at, more_operations, operations_at, numbers_at, title_request_at, numbers_request_at, request_at, call_or, whole_call, Line, line, setup_at, edit_call, edit_at, read_at, move_at, line_at, call_of}
use Rattle.lines.proofs.ParseLaws.{operation_by_kind, line_or, line_by_command, over_at}

-- whether a mistake tells what is wrong; and whether a cursor's does, where it has one
abbrev pub tells : Mistake → Bool
tells Mistake.None = false
tells UnknownWord = true
tells UnknownOperation = true
tells NumberMissing = true
tells NumberTooLarge = true
tells ColonMissing = true
tells AudioMissing = true
tells LengthMissing = true
tells ToMissing = true
tells TitleMissing = true
tells TitleOpen = true
tells TitleEmpty = true
tells TitleTooLong = true
tells TitleUnprintable = true
tells TooManyOperations = true
tells TooManyNumbers = true
tells TooMuch = true

abbrev pub tells_some : Option Mistake → Bool
tells_some None = true
tells_some (Some m) = tells m

unfoldable pub Telling : Reading → Type 0
Telling c = tells_some c.mistake ≡ true

-- a new cursor has none; one that goes on has the mistake that it is given, which may be another cursor's
pub new_tells : (line : List ℕ) (at : ℕ) → Telling (new_at line at)
unfolding Telling
new_tells line at = refl

pub resumed_tells : (line : List ℕ) (at : ℕ) (mistake : Option Mistake) → tells_some mistake ≡ true → Telling (reading line at mistake)
unfolding Telling
resumed_tells line at mistake h = h

pub kept_tells : (c : Reading) → Telling c → tells_some c.mistake ≡ true
unfolding Telling
kept_tells c h = h

-- it stays so at each step of a cursor, where the caller's own mistakes tell
pub moved_tells : (c : Reading) (at : ℕ) → Telling c → Telling (moved_to c at)
unfolding Telling
moved_tells c at h = by_cond (λ (r : Reading). tells_some r.mistake ≡ true) (is_good c) (reading c.line at None) c (λ e. refl) (λ e. h)

pub stopped_tells : (c : Reading) (m : Mistake) → tells m ≡ true → Telling c → Telling (stopped_by c m)
unfolding Telling
stopped_tells c m t h = by_cond (λ (r : Reading). tells_some r.mistake ≡ true) (is_good c) (reading c.line c.at (Some m)) c (λ e. t) (λ e. h)

either : (b : Bool) (x y : Reading) → Telling x → Telling y → Telling (cond b x y)
either b x y f g = by_cond Telling b x y (λ e. f) (λ e. g)

pub word_tells : (c : Reading) (expected : List ℕ) (m : Mistake) → tells m ≡ true → Telling c → Telling (past_word c expected m)
unfolding past_word
word_tells c expected m t h = either _ _ _ (moved_tells c (word_end c) h) (stopped_tells c m t h)

pub mark_tells : (c : Reading) (expected : ℕ) (m : Mistake) → tells m ≡ true → Telling c → Telling (past_mark c expected m)
unfolding past_mark
mark_tells c expected m t h =
    let at = next_place c in
    let no = stopped_tells c m t h in
    either (ltb at (length c.line)) _ _ (either (eqb (byte c.line at) expected) _ _ (moved_tells c (at + 1) h) no) no

pub error_tells : (e : NumberError) → tells (number_mistake e) ≡ true
error_tells Missing = refl
error_tells TooLarge = refl

pub number_tells : (c : Reading) (most : ℕ) → Telling c → Telling (number_at c most).cursor
unfolding number_at
number_tells c most h = go (number_of most (part_in c.line (next_place c) (digits_end c - next_place c)))
  where
    go : (n : Result ℕ NumberError) → Telling (taken c (digits_end c) n).cursor
    go (Ok v) = moved_tells c (digits_end c) h
    go (Err e) = stopped_tells c (number_mistake e) (error_tells e) h

pub title_tells : (c : Reading) → Telling c → Telling (title_at c).cursor
unfolding title_at title_from
title_tells c h = no _ TitleMissing refl _ (no _ TitleOpen refl _ (no _ TitleEmpty refl _ (no _ TitleTooLong refl _ (no _ TitleUnprintable refl _ (moved_tells c _ h)))))
  where
    no : (b : Bool) (m : Mistake) → tells m ≡ true → (q : Quoted) → Telling q.cursor → Telling (cond b (no_title c m) q).cursor
    no b m t q g = by_cond (λ (q : Quoted). Telling q.cursor) b (no_title c m) q (λ e. stopped_tells c m t h) (λ e. g)

pub ended_tells : (c : Reading) → Telling c → Telling (ended_at c)
unfolding ended_at
ended_tells c h = either (is_over c) _ _ h (stopped_tells c TooMuch refl h)

-- so the mistake of such a cursor is not None
pub mistake_told_at : (c : Reading) (m : Mistake) → Telling c → c.mistake ≡ Some m → m ≡ Mistake.None → ⊥
unfolding Telling
mistake_told_at c m h e n = false≢true (sym (ap tells_some e ∙ ap tells n) ∙ h)

-- the grammar: a call's parts, one after the other
of_title_if : (c : Reading) (asked : Bool) → Telling c → Telling (title_if c asked).cursor
unfolding title_if
of_title_if c asked h = by_cond (λ (q : Quoted). Telling q.cursor) asked _ _ (λ e. title_tells c h) (λ e. h)

of_number_if : (c : Reading) (word : List ℕ) (m : Mistake) (asked : Bool) → tells m ≡ true → Telling c → Telling (number_if c word m asked).cursor
unfolding number_if
of_number_if c word m asked t h = by_cond (λ (q : Taken). Telling q.cursor) asked _ _ (λ e. number_tells _ any_number (word_tells c word m t h)) (λ e. h)

of_fields : (c : Reading) (kind : ℕ) (titled recorded : Bool) → Telling c → Telling (fields_at c kind titled recorded).cursor
unfolding fields_at
of_fields c kind titled recorded h =
    of_number_if _ (bytes_of "length") LengthMissing recorded refl (of_number_if _ (bytes_of "audio") AudioMissing recorded refl (of_title_if _ titled (number_tells c two_bytes h)))

choice : (b : Bool) (x y : Gathered) → Telling x.cursor → Telling y.cursor → Telling (cond b x y).cursor
choice b x y f g = by_cond (λ (q : Gathered). Telling q.cursor) b x y (λ e. f) (λ e. g)

abbrev operation_or : Reading → Option Kind → Gathered
operation_or c (Some k) = fields_at (moved_to c (word_end c)) (kind_byte k) (has_title k) (has_recording k)
operation_or c None = gathered (zeros cart_size) (stopped_by c UnknownOperation)

of_operation : (c : Reading) → Telling c → Telling (operation_at c).cursor
of_operation c h = rw (operation_by_kind c) (go (kind_of (next_word c)))
  where
    go : (o : Option Kind) → Telling (operation_or c o).cursor
    go (Some k) = of_fields _ (kind_byte k) (has_title k) (has_recording k) (moved_tells c (word_end c) h)
    go None = stopped_tells c UnknownOperation refl h

of_more : (room : ℕ) (c : Reading) → Telling c → Telling (more_operations room c).cursor
unfolding more_operations
of_more zero c h = either _ _ _ (stopped_tells c TooManyOperations refl h) h
of_more (suc room) c h = choice _ _ _ (of_more room _ (of_operation _ (mark_tells c 59 TooMuch refl h))) h

of_operations : (c : Reading) → Telling c → Telling (operations_at c).cursor
unfolding operations_at
of_operations c h = of_more 7 _ (of_operation c h)

of_numbers : (room : ℕ) (c : Reading) (most : ℕ) → Telling c → Telling (numbers_at room c most).cursor
unfolding numbers_at
of_numbers zero c most h = stopped_tells c TooManyNumbers refl h
of_numbers (suc room) c most h = choice _ _ _ (of_numbers room _ most (number_tells c most h)) (number_tells c most h)

of_request : (c : Reading) → Telling c → Telling (request_at c).cursor
unfolding request_at title_request_at numbers_request_at
of_request c h = choice _ _ _ (title_tells c h) (of_numbers _ c two_bytes h)

-- whether a call tells what is wrong, where it is a line that cannot be read
abbrev pub call_tells : Call → Bool
call_tells Nothing = true
call_tells Show = true
call_tells (Setup n) = true
call_tells (Commit s n) = true
call_tells (Preview s n) = true
call_tells (Send n) = true
call_tells (Refresh n) = true
call_tells (Read s forwards) = true
call_tells (Collect n) = true
call_tells (Move s i) = true
call_tells Load = true
call_tells Retire = true
call_tells (Van n) = true
call_tells (Unreadable m at) = tells m

of_whole : (c : Reading) (call : Call) → call_tells call ≡ true → Telling c → call_tells (whole_call c call) ≡ true
unfolding whole_call Telling
of_whole c call t h = go (ended_at c).mistake (ended_tells c h)
  where
    go : (m : Option Mistake) → tells_some m ≡ true → call_tells (call_or call m (next_place (ended_at c))) ≡ true
    go None e = t
    go (Some m) e = e

of_setup : (c : Reading) → Telling c → call_tells (setup_at c).call ≡ true
unfolding setup_at
of_setup c h = of_whole _ _ refl (of_numbers _ _ 255 (mark_tells _ 58 ColonMissing refl (number_tells c any_number h)))

of_edit : (c : Reading) (previews : Bool) → Telling c → call_tells (edit_at c previews).call ≡ true
unfolding edit_at edit_call
of_edit c previews h = of_whole _ _ (by_cond (λ (k : Call). call_tells k ≡ true) previews _ _ (λ e. refl) (λ e. refl)) (of_operations _ (mark_tells _ 58 ColonMissing refl (number_tells c any_number h)))

of_read : (c : Reading) (forwards : Bool) → Telling c → call_tells (read_at c forwards).call ≡ true
unfolding read_at
of_read c forwards h = of_whole _ _ refl (of_request _ (mark_tells _ 58 ColonMissing refl (number_tells c any_number h)))

of_move : (c : Reading) → Telling c → call_tells (move_at c) ≡ true
unfolding move_at
of_move c h = of_whole _ _ refl (number_tells _ any_number (word_tells _ (bytes_of "to") ToMissing refl (number_tells c any_number h)))

of_number_line : (c : Reading) (call : ℕ → Call) → ((n : ℕ) → call_tells (call n) ≡ true) → Telling c → call_tells (number_line c call).call ≡ true
of_number_line c call t h = of_whole _ _ (t _) (number_tells c any_number h)

of_command : (c : Reading) (o : Option Command) → Telling c → call_tells (line_or c o).call ≡ true
unfolding line_by
of_command c (Some Command.Show) h = of_whole c Show refl h
of_command c (Some Command.Setup) h = of_setup c h
of_command c (Some Command.Commit) h = of_edit c false h
of_command c (Some Command.Preview) h = of_edit c true h
of_command c (Some Command.Read) h = of_read c false h
of_command c (Some Command.Forward) h = of_read c true h
of_command c (Some Command.Move) h = of_move c h
of_command c (Some Command.Load) h = of_whole c Load refl h
of_command c (Some Command.Retire) h = of_whole c Retire refl h
of_command c (Some Command.Send) h = of_number_line c Send (λ n. refl) h
of_command c (Some Command.Refresh) h = of_number_line c Refresh (λ n. refl) h
of_command c (Some Command.Collect) h = of_number_line c Collect (λ n. refl) h
of_command c (Some Command.Van) h = of_number_line c Van (λ n. refl) h
of_command c None h = refl

pub line_tells : (s : List ℕ) → call_tells (call_of s) ≡ true
line_tells s = go (is_over c) refl
  where
    c : Reading
    c = new_at s 0

    go : (over : Bool) → is_over c ≡ over → call_tells (line_at c).call ≡ true
    go true e = ap (λ (l : Line). call_tells l.call) (sym (over_at c e))
    go false e = ap (λ (l : Line). call_tells l.call) (sym (line_by_command c e)) ∙ of_command (moved_to c (word_end c)) (command_of (next_word c)) (moved_tells c (word_end c) (new_tells s 0))

-- a line that is no call is told by a mistake that is not None
pub mistake_told : (s : List ℕ) (m : Mistake) (at : ℕ) → call_of s ≡ Unreadable m at → m ≡ Mistake.None → ⊥
mistake_told s m at e n = false≢true (sym (ap call_tells e ∙ ap tells n) ∙ line_tells s)
