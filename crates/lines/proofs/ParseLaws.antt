-- Laws of the grammar: each reading by its parts, and the turns of its two loops.
use Prim.Native.Nat.{ℕ, suc, ◌+◌, ◌*◌, ◌-◌, ◌/◌, ◌<◌, ◌≤◌}
use mathlib.Core.Path.{◌≡◌, refl, sym, ap, ◌∙◌}
use mathlib.Core.Bool.{Bool, true, false, cond}
use mathlib.Core.List.{List, [], ◌∷◌, ◌++◌, append-nil, append_assoc}
use native.Mathlib.Omega.{arith}
use native.Mathlib.Nat.{mul-div_cancel_left}
use native.Mathlib.Numerals.{add-one}
use borrow.Author.Tests.{ne_eqb}
use lib.Dec.{eqb}
use lib.ListN.{length, take, drop, set, take-append-drop}
use lib.Seq.{take-add, drop-drop, set_split, take_at, length-take-le}
use Rattle.std.specs.Prelude.{Option, Some, None}
use Rattle.carts.specs.Cart.{cart_size}
use Rattle.carts.specs.Bytes.{over, zeros}
use Rattle.carts.proofs.PartLaws.{length_over, take_over, part_over, drop_over_after}
use Rattle.lines.specs.declared.cursor.Mistake.{Mistake}
use Rattle.lines.specs.declared.cursor.Mistake.TheVariants.{UnknownWord, UnknownOperation, ColonMissing, TooManyOperations, TooManyNumbers, TooMuch}
use Rattle.lines.specs.declared.text.Class.TheVariants.{Digit}
use Rattle.lines.specs.declared.keyword.Command.{Command}
use Rattle.carts.specs.declared.kind.Kind.{Kind}
use Rattle.carts.specs.declared.kind.Kind.TheVariants.{New, Retitle, Recut, Withdraw}
use Rattle.lines.specs.declared.parse.Call.{Call}
use Rattle.lines.specs.declared.parse.Call.TheVariants.{Nothing, Show, Setup, Send, Refresh, Read, Collect, Load, Retire, Van, Unreadable}
use Rattle.lines.specs.Text.{in_class}
use Rattle.lines.specs.Cursor.{Reading, new_at, moved_to, stopped_by, next_place, next_byte, next_word, word_end, past_mark, number_at, is_over, ended_at}
use Rattle.lines.specs.Words.{says}
use Rattle.lines.specs.Build.{numbers_bytes, studio_bytes}
use Rattle.lines.specs.Parse.{any_number, two_bytes, Gathered, gathered, with_first, kind_of, kind_byte, has_title, has_recording, fields_at, operation_at, more_operations, operations_at, numbers_at, numbers_request_at, request_at, call_or, whole_call, Line, line, setup_at, edit_call, edit_at, read_at, move_at, number_call_at, line_at, line_of, command_of, number_command_of, line_by, begun_with, call_of, payload_of, call_fits, Means, Stored}

-- an operation by its kind
kinds : {A : Type 0} (f : Kind → A) (z : A) (a b d e : Bool) →
    cond a (f New) (cond b (f Retitle) (cond d (f Recut) (cond e (f Withdraw) z))) ≡ elim (cond a (Some New) (cond b (Some Retitle) (cond d (Some Recut) (cond e (Some Withdraw) None)))) [ Some k ↦ f k | None ↦ z ]
kinds f z true b d e = refl
kinds f z false true d e = refl
kinds f z false false true e = refl
kinds f z false false false true = refl
kinds f z false false false false = refl

pub operation_by_kind : (c : Reading) → operation_at c ≡ elim (kind_of (next_word c)) [ Some k ↦ fields_at (moved_to c (word_end c)) (kind_byte k) (has_title k) (has_recording k) | None ↦ gathered (zeros cart_size) (stopped_by c UnknownOperation) ]
unfolding kind_of operation_at
operation_by_kind c =
    let next = moved_to c (word_end c) in
    let word = next_word c in
    kinds (λ k. fields_at next (kind_byte k) (has_title k) (has_recording k)) (gathered (zeros cart_size) (stopped_by c UnknownOperation)) (says word "new") (says word "retitle") (says word "re-cut") (says word "withdraw")

-- of what is read, the first n items, of a size each, stand in the memory; the rest is still to be read, and the memory past them is as it was
pub record Passed (whole : Gathered) (size n : ℕ) (memory memory' : List ℕ) (rest : Gathered) : Type 0 where
  pub fits : size * n ≤ length memory
  pub kept : length memory' ≡ length memory
  pub read : whole ≡ with_first (take (size * n) memory') rest
  pub left : drop (size * n) memory' ≡ drop (size * n) memory

-- none
pub passed_none : (whole rest : Gathered) (size : ℕ) (memory : List ℕ) → whole ≡ rest → Passed whole size 0 memory memory rest
passed_none whole rest size memory h =
    let e : size * 0 ≡ 0 = omega arith in
    record { fits = omega arith; kept = refl; read = rw e h; left = refl }

-- one item more
pub passed_more : (whole rest : Gathered) (size n : ℕ) (memory memory' item : List ℕ) →
    Passed whole size n memory memory' (with_first item rest) → length item ≡ size → size * n + size ≤ length memory →
    Passed whole size (n + 1) memory (over memory' (size * n) size item) rest
passed_more whole rest size n memory memory' item p e h =
    let k = p.kept in
    let a = size * n in
    let f : a + size ≤ length memory' = omega arith in
    let l : a ≤ length memory' = omega arith in
    let g : size * (n + 1) ≡ a + size = omega arith in
    record {
      fits = omega arith;
      kept = length_over memory' a size item f e ∙ k;
      read = rw (g, take-add a size (over memory' a size item), take_over memory' a size item a l (omega arith), part_over memory' a size item l e, append_assoc) p.read;
      left = rw (g, drop_over_after memory' a size item (a + size) l e (omega arith), ← drop-drop size a memory', p.left) (drop-drop size a memory);
    }

-- all items
pub passed_all : (whole : Gathered) (size n : ℕ) (memory memory' : List ℕ) (c : Reading) →
    Passed whole size n memory memory' (gathered [] c) → Stored size whole memory memory' n c
passed_all whole size n memory memory' c p =
    let k = p.kept in
    let f = p.fits in
    let a = size * n in
    let l : a ≤ length memory' = omega arith in
    let e : whole ≡ gathered (take a memory') c = p.read ∙ rw append-nil in
    let m : length (take a memory') ≡ a = length-take-le a memory' l in
    rw e (record { items = rw (m, ← p.left) (sym (take-append-drop a memory')); count = m; cursor = refl })

-- numbers: a turn of the loop, one more is stored; and the end, where there is no room
over_one : (memory : List ℕ) (n v : ℕ) → n < length memory → over memory (1 * n) 1 (v ∷ []) ≡ set memory n v
over_one memory n v h =
    let e : 1 * n ≡ n = omega arith in
    rw e (ap (λ r. take n memory ++ (v ∷ r)) (drop-drop 1 n memory ∙ ap (λ k. drop k memory) (add-one n)) ∙ sym (set_split memory n v h))

pub numbers_turn : (whole : Gathered) (c : Reading) (most n : ℕ) (memory memory' : List ℕ) →
    Passed whole 1 n memory memory' (numbers_at (length memory - n) c most) → n < length memory →
    let one = number_at c most in
    Passed whole 1 (n + 1) memory (set memory' n one.value) (cond (in_class Digit (next_byte one.cursor)) (numbers_at (length memory - (n + 1)) one.cursor most) (gathered [] one.cursor))
unfolding numbers_at
numbers_turn whole c most n memory memory' p h =
    let k = p.kept in
    let one = number_at c most in
    let r : length memory - n ≡ suc (length memory - (n + 1)) = omega arith in
    rw (over_one memory' n one.value (omega arith)) at (passed_more whole _ 1 n memory memory' (one.value ∷ []) (rw r at p) refl (omega arith))

pub numbers_full : (whole : Gathered) (c : Reading) (most n : ℕ) (memory memory' : List ℕ) →
    Passed whole 1 n memory memory' (numbers_at (length memory - n) c most) → length memory ≤ n →
    Passed whole 1 n memory memory' (gathered [] (stopped_by c TooManyNumbers))
unfolding numbers_at
numbers_full whole c most n memory memory' p h = let r : length memory - n ≡ 0 = omega arith in rw r at p

-- operations: the first is stored, one more is stored, there is no more, or there is no room
pub operations_first : (c next : Reading) (memory item : List ℕ) →
    gathered item next ≡ operation_at c → length item ≡ 80 → 80 ≤ length memory →
    Passed (operations_at c) 80 1 memory (over memory 0 80 item) (more_operations 7 next)
unfolding operations_at
operations_first c next memory item e l h =
    let w = operations_at c in
    let rest = more_operations 7 next in
    passed_more w rest 80 0 memory memory item (passed_none w (with_first item rest) 80 memory (rw (← e))) l h

pub operations_more : (whole : Gathered) (c next : Reading) (n : ℕ) (memory memory' item : List ℕ) →
    Passed whole 80 n memory memory' (more_operations (8 - n) c) → n < 8 → next_byte c ≡ 59 →
    gathered item next ≡ operation_at (past_mark c 59 TooMuch) → length item ≡ 80 → 80 * n + 80 ≤ length memory →
    Passed whole 80 (n + 1) memory (over memory' (80 * n) 80 item) (more_operations (8 - (n + 1)) next)
unfolding more_operations
operations_more whole c next n memory memory' item p h t e l f =
    let r : 8 - n ≡ suc (8 - (n + 1)) = omega arith in
    passed_more whole (more_operations (8 - (n + 1)) next) 80 n memory memory' item (rw (r, t, ← e) at p) l f

pub operations_last : (whole : Gathered) (c : Reading) (n : ℕ) (memory memory' : List ℕ) →
    Passed whole 80 n memory memory' (more_operations (8 - n) c) → n < 8 → (next_byte c ≡ 59 → ⊥) →
    Passed whole 80 n memory memory' (gathered [] c)
unfolding more_operations
operations_last whole c n memory memory' p h t = let r : 8 - n ≡ suc (8 - (n + 1)) = omega arith in rw (r, ne_eqb _ _ t) at p

pub operations_full : (whole : Gathered) (c : Reading) (n : ℕ) (memory memory' : List ℕ) →
    Passed whole 80 n memory memory' (more_operations (8 - n) c) → 8 ≤ n →
    Passed whole 80 n memory memory' (gathered [] (cond (eqb (next_byte c) 59) (stopped_by c TooManyOperations) c))
unfolding more_operations
operations_full whole c n memory memory' p h = let r : 8 - n ≡ 0 = omega arith in rw r at p

-- the numbers that were stored, and a request by them
pub stored_items : (g : Gathered) (memory memory' : List ℕ) (n : ℕ) (c : Reading) → Stored 1 g memory memory' n c → take n memory' ≡ g.items
stored_items g memory memory' n c h =
    let k = h.count in
    rw h.items (take_at g.items (drop (length g.items) memory) n (omega arith))

pub numbers_request : (c after : Reading) (memory memory' : List ℕ) (n : ℕ) →
    Stored 1 (numbers_at 32 c two_bytes) memory memory' n after → gathered (numbers_bytes (take n memory')) after ≡ numbers_request_at c
unfolding numbers_request_at
numbers_request c after memory memory' n h = rw (stored_items (numbers_at 32 c two_bytes) memory memory' n after h, h.cursor)

-- the lines that have bytes, each by its parts
begun : (memory bytes : List ℕ) (n : ℕ) → length bytes ≡ n → over memory 0 n bytes ≡ begun_with bytes memory
begun memory bytes n e = rw (← e)

pub setup_by_parts : (c colon after : Reading) (studios : ℕ) (places places' : List ℕ) (n : ℕ) (memory : List ℕ) (r : Call) →
    studios ≡ (number_at c any_number).value → colon ≡ past_mark (number_at c any_number).cursor 58 ColonMissing → Stored 1 (numbers_at 16 colon 255) places places' n after →
    length (studio_bytes (take n places')) ≡ 16 → r ≡ whole_call after (Setup studios) → call_fits r →
    Means (setup_at c) memory (over memory 0 16 (studio_bytes (take n places'))) r
unfolding setup_at
setup_by_parts c colon after studios places places' n memory r e₁ e₂ h l e f =
    let g = numbers_at 16 colon 255 in
    let i : take n places' ≡ g.items = stored_items g places places' n after h in
    record {
      call = rw (e, h.cursor, e₂, e₁);
      payload = begun memory (studio_bytes (take n places')) 16 l ∙ rw (i, e₂);
      fits = f;
    }

pub edit_by_parts : (c colon after : Reading) (previews : Bool) (session n : ℕ) (memory memory' : List ℕ) (r : Call) →
    session ≡ (number_at c any_number).value → colon ≡ past_mark (number_at c any_number).cursor 58 ColonMissing → Stored 80 (operations_at colon) memory memory' n after →
    r ≡ whole_call after (edit_call session n previews) → call_fits r → Means (edit_at c previews) memory memory' r
unfolding edit_at
edit_by_parts c colon after previews session n memory memory' r e₁ e₂ h e f =
    let z : 0 < 80 = omega arith in
    let d : n ≡ length (operations_at colon).items / 80 = rw h.count (sym (mul-div_cancel_left n z)) in
    record { call = rw (e, h.cursor, d, e₂, e₁); payload = h.items ∙ rw e₂; fits = f }

pub read_by_parts : (c colon end : Reading) (forwards : Bool) (session : ℕ) (memory bytes : List ℕ) (r : Call) →
    session ≡ (number_at c any_number).value → colon ≡ past_mark (number_at c any_number).cursor 58 ColonMissing → gathered bytes end ≡ request_at colon →
    length bytes ≡ 80 → r ≡ whole_call end (Read session forwards) → call_fits r → Means (read_at c forwards) memory (over memory 0 80 bytes) r
unfolding read_at
read_by_parts c colon end forwards session memory bytes r e₁ e₂ h l e f =
    let w : line (whole_call end (Read session forwards)) bytes ≡ read_at c forwards = rw (e₁, ← e₂, ← h) in
    record { call = e ∙ ap (λ w. w.call) w; payload = begun memory bytes 80 l ∙ ap (λ w. begun_with w.bytes memory) w; fits = f }

-- a call, by how the line ended
pub whole_by_parts : (c end : Reading) (call : Call) (m : Option Mistake) → end ≡ ended_at c → m ≡ end.mistake → call_or call m (next_place end) ≡ whole_call c call
unfolding whole_call
whole_by_parts c end call m e h = rw (h, e)

-- a line with a call alone
pub call_alone : (call r : Call) (memory : List ℕ) → r ≡ call → call_fits r → Means (line call []) memory memory r
call_alone call r memory e f = record { call = e; payload = refl; fits = f }

-- a line by the command of its first word
abbrev pub line_or : Reading → Option Command → Line
line_or next (Some k) = line_by next k
line_or next None = line (Unreadable UnknownWord 0) []

lines : (next : Reading) (b₁ b₂ b₃ b₄ b₅ b₆ b₇ b₈ b₉ b₁₀ b₁₁ b₁₂ b₁₃ : Bool) →
    cond b₁ (line (whole_call next Show) [])
    (cond b₂ (setup_at next)
    (cond b₃ (edit_at next false)
    (cond b₄ (edit_at next true)
    (cond b₅ (read_at next false)
    (cond b₆ (read_at next true)
    (cond b₇ (line (move_at next) [])
    (cond b₈ (line (whole_call next Load) [])
    (cond b₉ (line (whole_call next Retire) [])
    (line (let n = number_at next any_number in
    cond b₁₀ (whole_call n.cursor (Send n.value))
    (cond b₁₁ (whole_call n.cursor (Refresh n.value))
    (cond b₁₂ (whole_call n.cursor (Collect n.value))
    (cond b₁₃ (whole_call n.cursor (Van n.value))
    (Unreadable UnknownWord 0))))) [])))))))))
    ≡ line_or next (cond b₁ (Some Command.Show) (cond b₂ (Some Command.Setup) (cond b₃ (Some Command.Commit) (cond b₄ (Some Command.Preview) (cond b₅ (Some Command.Read) (cond b₆ (Some Command.Forward) (cond b₇ (Some Command.Move) (cond b₈ (Some Command.Load) (cond b₉ (Some Command.Retire)
    (cond b₁₀ (Some Command.Send) (cond b₁₁ (Some Command.Refresh) (cond b₁₂ (Some Command.Collect) (cond b₁₃ (Some Command.Van) None)))))))))))))
unfolding line_by
lines next true b₂ b₃ b₄ b₅ b₆ b₇ b₈ b₉ b₁₀ b₁₁ b₁₂ b₁₃ = refl
lines next false true b₃ b₄ b₅ b₆ b₇ b₈ b₉ b₁₀ b₁₁ b₁₂ b₁₃ = refl
lines next false false true b₄ b₅ b₆ b₇ b₈ b₉ b₁₀ b₁₁ b₁₂ b₁₃ = refl
lines next false false false true b₅ b₆ b₇ b₈ b₉ b₁₀ b₁₁ b₁₂ b₁₃ = refl
lines next false false false false true b₆ b₇ b₈ b₉ b₁₀ b₁₁ b₁₂ b₁₃ = refl
lines next false false false false false true b₇ b₈ b₉ b₁₀ b₁₁ b₁₂ b₁₃ = refl
lines next false false false false false false true b₈ b₉ b₁₀ b₁₁ b₁₂ b₁₃ = refl
lines next false false false false false false false true b₉ b₁₀ b₁₁ b₁₂ b₁₃ = refl
lines next false false false false false false false false true b₁₀ b₁₁ b₁₂ b₁₃ = refl
lines next false false false false false false false false false true b₁₁ b₁₂ b₁₃ = refl
lines next false false false false false false false false false false true b₁₂ b₁₃ = refl
lines next false false false false false false false false false false false true b₁₃ = refl
lines next false false false false false false false false false false false false true = refl
lines next false false false false false false false false false false false false false = refl

pub line_by_command : (c : Reading) → is_over c ≡ false → line_or (moved_to c (word_end c)) (command_of (next_word c)) ≡ line_at c
unfolding line_at command_of number_command_of number_call_at
line_by_command c e =
    let w = next_word c in
    rw e (sym (lines (moved_to c (word_end c)) (says w "show") (says w "setup") (says w "commit") (says w "preview") (says w "read") (says w "forward") (says w "move") (says w "load") (says w "retire") (says w "send") (says w "refresh") (says w "collect") (says w "van")))

pub line_known : (s : List ℕ) (c : Reading) (o : Option Command) → c ≡ new_at s 0 → is_over c ≡ false → o ≡ command_of (next_word c) → line_or (moved_to c (word_end c)) o ≡ line_of s
line_known s c o e h k = ap (line_or (moved_to c (word_end c))) k ∙ line_by_command c h ∙ ap line_at e

pub over_at : (c : Reading) → is_over c ≡ true → line Nothing [] ≡ line_at c
unfolding line_at
over_at c h = rw h

pub line_over : (s : List ℕ) (c : Reading) → c ≡ new_at s 0 → is_over c ≡ true → line Nothing [] ≡ line_of s
line_over s c e h = over_at c h ∙ ap line_at e

-- what a line means, by what it is
pub line_means : (s : List ℕ) (l : Line) (memory memory' : List ℕ) (r : Call) → Means l memory memory' r → l ≡ line_of s →
    (r ≡ call_of s) × (memory' ≡ payload_of s memory) × call_fits r
line_means s l memory memory' r m e = (m.call ∙ ap (λ w. w.call) e, m.payload ∙ ap (λ w. begun_with w.bytes memory) e, m.fits)
