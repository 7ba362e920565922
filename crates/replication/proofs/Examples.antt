-- WORKED EXAMPLES of the definitions, by computation: the rows of each call in their order, requests, sessions, counts.
use mathlib.Core.Path.{◌≡◌, refl}
use mathlib.Core.Bool.{true, false}
use mathlib.Core.List.{List, [], ◌∷◌, ◌++◌}
use Prim.Native.Nat.{ℕ}
use lib.ListN.{set, replicate}
use Rattle.carts.specs.Bytes.{zeros, u16, u32, u16_bytes, u16s, within, all, every, any, all_zero, parts}
use Rattle.carts.specs.Cart.{cart_at, printable, title_form, has_title, no_title, has_audio, no_audio, held}
use Rattle.carts.specs.Operation.{operation_fields, operation_form, spaced, operations_of, made, meets_cart, effect, acted_on, meets, act, meets_all, act_all}
use Rattle.carts.specs.Transaction.{met_from}
use Rattle.carts.proofs.Samples.{u32_bytes, operation, new_cart, top_hour_a, news, long_title}
use Rattle.replication.specs.Memory.{session_at, with_session, sequence_of, with_sequence, studio_of}
use Rattle.edit_log.specs.Log.{up_from}
use Rattle.replication.specs.Log.{log_count, no_room}
use Rattle.replication.specs.Request.{nothing, by_numbers, by_title, numbers_in, request_of, numbers_form, request_fields, request_form, is_waiting, needed}
use Rattle.replication.specs.Layout.{waiting_form, session_form, session_form_of, counts_form}
use Rattle.replication.specs.Rows.{stopped, setup_rows, session_row, studio_row, size_form, commit_rows, send_rows, refresh_rows, read_rows, collect_rows, write_rows, move_rows, load_rows, retire_rows}
use Rattle.replication.specs.Calls.{control_of, told_sessions, committed, with_sent, with_applied}
use Rattle.replication.specs.declared.control.Control.{Control}
use Rattle.replication.proofs.Samples.{filled, pairs, ask_numbers, ask_title}

unfoldable A : List ℕ
A = new_cart 7 top_hour_a 501 8000

-- a new cart 7 with the title "News "
unfoldable B : List ℕ
B = new_cart 7 (news ++ (32 ∷ [])) 501 8000

-- short copies: eight empty carts, and with cart 7 held
unfoldable none : List ℕ
none = zeros 640

unfoldable one : List ℕ
one = act none A

-- each row where the later ones hold too, then none
pub record RowOrder : Type 0 where
  setup_studios : stopped (setup_rows 5 (zeros 16)) ≡ 15
  setup_none : stopped (setup_rows 0 (zeros 16)) ≡ 15
  setup_count : stopped (setup_rows 2 (zeros 15)) ≡ 15
  setup_above : stopped (setup_rows 2 (3 ∷ zeros 15)) ≡ 15
  setup_passes : stopped (setup_rows 2 (1 ∷ 2 ∷ zeros 14)) ≡ 0
  commit_3 : stopped (commit_rows 17 1 (by_numbers (7 ∷ [])) 512 9 one []) ≡ 3
  commit_unused : stopped (commit_rows 16 0 nothing 0 9 none A) ≡ 3
  commit_4 : stopped (commit_rows 1 1 (by_numbers (7 ∷ [])) 512 9 one []) ≡ 4
  commit_5 : stopped (commit_rows 1 1 nothing 512 9 one (zeros 79)) ≡ 5
  commit_5_long : stopped (commit_rows 1 1 nothing 512 9 one (zeros 720)) ≡ 5
  commit_6 : stopped (commit_rows 1 1 nothing 512 9 one (A ++ zeros 80)) ≡ 6
  commit_6_later : stopped (commit_rows 1 1 nothing 512 9 one (B ++ zeros 80)) ≡ 6
  commit_16 : stopped (commit_rows 1 1 nothing 512 9 one B) ≡ 16
  commit_16_later : stopped (commit_rows 1 1 nothing 512 9 one (A ++ B)) ≡ 16
  commit_16_alone : stopped (commit_rows 1 1 nothing 511 9 none B) ≡ 16
  commit_7 : stopped (commit_rows 1 1 nothing 512 9 one A) ≡ 7
  commit_7_numbers : stopped (commit_rows 1 1 nothing 0 65535 one A) ≡ 7
  commit_8 : stopped (commit_rows 1 1 nothing 511 9 one A) ≡ 8
  commit_passes : stopped (commit_rows 16 4 nothing 511 65534 none A) ≡ 0
  send_3 : stopped (send_rows 2 3 32 0 32) ≡ 3
  send_9 : stopped (send_rows 2 2 32 0 32) ≡ 9
  send_10 : stopped (send_rows 2 2 32 0 33) ≡ 10
  send_passes : stopped (send_rows 2 2 32 1 33) ≡ 0
  refresh_3 : stopped (refresh_rows 2 0 5 5) ≡ 3
  refresh_11 : stopped (refresh_rows 2 1 5 5) ≡ 11
  refresh_passes : stopped (refresh_rows 2 1 5 4) ≡ 0
  read_3 : stopped (read_rows 0 0 (by_title top_hour_a) [] 0) ≡ 3
  read_4 : stopped (read_rows 1 1 (by_title top_hour_a) [] 0) ≡ 4
  read_12 : stopped (read_rows 1 1 nothing (ask_numbers []) 0) ≡ 12
  read_13 : stopped (read_rows 1 1 nothing (ask_numbers (replicate 32 7)) 2559) ≡ 13
  read_passes : stopped (read_rows 1 1 nothing (ask_numbers (replicate 32 7)) 2560) ≡ 0
  read_title_13 : stopped (read_rows 1 1 nothing (ask_title top_hour_a) 79) ≡ 13
  read_title_passes : stopped (read_rows 1 1 nothing (ask_title top_hour_a) 80) ≡ 0
  collect_3 : stopped (collect_rows 1 0 nothing 0) ≡ 3
  collect_14 : stopped (collect_rows 1 1 nothing 0) ≡ 14
  collect_13 : stopped (collect_rows 1 1 (by_numbers (7 ∷ 7 ∷ [])) 159) ≡ 13
  collect_passes : stopped (collect_rows 1 1 (by_numbers (7 ∷ 7 ∷ [])) 160) ≡ 0
  move_3 : stopped (move_rows 17 0 (by_title top_hour_a) 2 3) ≡ 3
  move_unused : stopped (move_rows 1 0 nothing 2 1) ≡ 3
  move_nowhere : stopped (move_rows 1 1 (by_title top_hour_a) 2 3) ≡ 3
  move_to_0 : stopped (move_rows 1 1 nothing 2 0) ≡ 3
  move_4 : stopped (move_rows 1 1 (by_title top_hour_a) 2 2) ≡ 4
  move_passes : stopped (move_rows 1 1 nothing 2 2) ≡ 0
  move_here : stopped (move_rows 16 2 nothing 2 2) ≡ 0
  load_empty : stopped (load_rows true one []) ≡ 0
  load_copy : stopped (load_rows false one []) ≡ 19
  load_passes : stopped (load_rows true none (operations_of A ∷ [])) ≡ 0
  load_twice : stopped (load_rows true none (operations_of A ∷ operations_of A ∷ [])) ≡ 19
  load_from_sixth : stopped (load_rows true one (operations_of A ∷ [])) ≡ 19
  retire_none : stopped (retire_rows 1 5 5 (5 ∷ zeros 3)) ≡ 20
  retire_needed : stopped (retire_rows 2 4 9 (9 ∷ 4 ∷ zeros 2)) ≡ 20
  retire_passes : stopped (retire_rows 2 4 9 (9 ∷ 5 ∷ zeros 2)) ≡ 0
  write_21 : stopped (write_rows 4 9 4 84 0) ≡ 21
  write_17 : stopped (write_rows 4 9 10 84 84) ≡ 17
  write_0 : stopped (write_rows 4 9 0 84 84) ≡ 17
  write_short : stopped (write_rows 4 9 5 84 83) ≡ 17
  write_passes : stopped (write_rows 4 9 5 84 84) ≡ 0

pub row_order : RowOrder
unfolding A B none one zeros u16 u32 u16_bytes u16s within all every any all_zero parts cart_at printable title_form has_title no_title has_audio no_audio held operation_fields operation_form spaced operations_of made meets_cart effect acted_on meets act meets_all act_all met_from u32_bytes operation new_cart top_hour_a news no_room numbers_in request_of numbers_form request_fields request_form is_waiting needed stopped setup_rows session_row studio_row size_form commit_rows send_rows refresh_rows read_rows collect_rows move_rows load_rows retire_rows write_rows up_from filled pairs ask_numbers ask_title
row_order = record {
  setup_studios = refl;
  setup_none = refl;
  setup_count = refl;
  setup_above = refl;
  setup_passes = refl;
  commit_3 = refl;
  commit_unused = refl;
  commit_4 = refl;
  commit_5 = refl;
  commit_5_long = refl;
  commit_6 = refl;
  commit_6_later = refl;
  commit_16 = refl;
  commit_16_later = refl;
  commit_16_alone = refl;
  commit_7 = refl;
  commit_7_numbers = refl;
  commit_8 = refl;
  commit_passes = refl;
  send_3 = refl;
  send_9 = refl;
  send_10 = refl;
  send_passes = refl;
  refresh_3 = refl;
  refresh_11 = refl;
  refresh_passes = refl;
  read_3 = refl;
  read_4 = refl;
  read_12 = refl;
  read_13 = refl;
  read_passes = refl;
  read_title_13 = refl;
  read_title_passes = refl;
  collect_3 = refl;
  collect_14 = refl;
  collect_13 = refl;
  collect_passes = refl;
  move_3 = refl;
  move_unused = refl;
  move_nowhere = refl;
  move_to_0 = refl;
  move_4 = refl;
  move_passes = refl;
  move_here = refl;
  load_empty = refl;
  load_copy = refl;
  load_passes = refl;
  load_twice = refl;
  load_from_sixth = refl;
  retire_none = refl;
  retire_needed = refl;
  retire_passes = refl;
  write_21 = refl;
  write_17 = refl;
  write_0 = refl;
  write_short = refl;
  write_passes = refl;
}

-- control of two studios with session 1 at studio 1, 3 commits
unfoldable three : Control
three = committed (committed (committed (control_of 2 (1 ∷ zeros 15) 1 512) 1 2) 1 3) 1 4

-- control of one studio with 33 commits, of which so many are sent and applied
unfoldable counted : ℕ → ℕ → Control
counted sent applied = record { studios = 1; session_studios = zeros 16; used = 33; commits = 33; sent = sent ∷ zeros 3; applied = applied ∷ zeros 3; retired = 1; oldest = 1; free_first = 34; free_last = 512 }

pub record Requests : Type 0 where
  numbers : request_of (ask_numbers (7 ∷ 8 ∷ [])) ≡ by_numbers (7 ∷ 8 ∷ [])
  title : request_of (ask_title top_hour_a) ≡ by_title top_hour_a
  form : request_form (ask_numbers (replicate 32 128)) ≡ true
  form_title : request_form (ask_title (long_title 49)) ≡ true
  form_spaces : request_form (ask_title (32 ∷ news ++ (32 ∷ []))) ≡ true
  long : request_form (ask_numbers (7 ∷ []) ++ (0 ∷ [])) ≡ false
  number_0 : request_form (ask_numbers (7 ∷ 0 ∷ [])) ≡ false
  number_129 : request_form (ask_numbers (129 ∷ [])) ≡ false
  count_33 : request_form (set (ask_numbers (replicate 32 7)) 1 33) ≡ false
  number_after_law : request_form (set (ask_numbers (7 ∷ [])) 18 7) ≡ false
  title_65 : request_form (set (ask_title (long_title 49)) 1 65) ≡ false
  letter_after : request_form (set (ask_title top_hour_a) 26 65) ≡ false
  sequence : request_form (set (ask_numbers (7 ∷ [])) 2 1) ≡ false
  kind_0 : request_form (zeros 80) ≡ false
  kind_3 : request_form (set (ask_title top_hour_a) 0 3) ≡ false
  waits : session_form three 1 (set (ask_numbers (7 ∷ [])) 2 3) ≡ true
  waits_above : session_form three 1 (set (ask_numbers (7 ∷ [])) 2 4) ≡ false
  idle : session_form three 1 (set (zeros 80) 2 3) ≡ true
  idle_above : session_form three 1 (set (zeros 80) 2 4) ≡ false
  idle_count : session_form three 1 (set (zeros 80) 1 1) ≡ false
  idle_bytes : session_form three 1 (set (zeros 80) 79 1) ≡ false
  idle_spare : session_form three 1 (set (zeros 80) 4 1) ≡ false
  unused : session_form three 2 (zeros 80) ≡ true
  unused_number : session_form three 2 (set (zeros 80) 2 1) ≡ false
  sent_above : counts_form (with_sent three 1 4) 1 ≡ false
  applied_above : counts_form (with_applied three 1 1) 1 ≡ false
  counts : counts_form (with_applied (with_sent three 2 3) 2 2) 2 ≡ true
  counts_above_S : counts_form (with_sent three 3 1) 3 ≡ false
  window_32 : counts_form (counted 33 1) 1 ≡ true
  window_33 : counts_form (counted 33 0) 1 ≡ false
  retired_above : counts_form (counted 5 0) 1 ≡ false

pub requests : Requests
unfolding three counted zeros u16 u16s within all every all_zero printable title_form sequence_of studio_of numbers_in request_of numbers_form request_fields request_form waiting_form session_form session_form_of counts_form control_of committed log_count with_sent with_applied top_hour_a news long_title filled pairs ask_numbers ask_title
requests = record {
  numbers = refl;
  title = refl;
  form = refl;
  form_title = refl;
  form_spaces = refl;
  long = refl;
  number_0 = refl;
  number_129 = refl;
  count_33 = refl;
  number_after_law = refl;
  title_65 = refl;
  letter_after = refl;
  sequence = refl;
  kind_0 = refl;
  kind_3 = refl;
  waits = refl;
  waits_above = refl;
  idle = refl;
  idle_above = refl;
  idle_count = refl;
  idle_bytes = refl;
  idle_spare = refl;
  unused = refl;
  unused_number = refl;
  sent_above = refl;
  applied_above = refl;
  counts = refl;
  counts_above_S = refl;
  window_32 = refl;
  window_33 = refl;
  retired_above = refl;
}

-- the sessions after a commit of session 2 at 300 commits, 44 + 256, by the row that stopped it: three sessions, every byte 255
pub record Told : Type 0 where
  by_8 : told_sessions (replicate 240 255) 2 300 8 ≡ replicate 82 255 ++ (44 ∷ 1 ∷ replicate 156 255)
  by_7 : told_sessions (replicate 240 255) 2 300 7 ≡ replicate 240 255
  by_16 : told_sessions (replicate 240 255) 2 300 16 ≡ replicate 240 255

pub told : Told
unfolding told_sessions session_at with_session with_sequence u16_bytes
told = record { by_8 = refl; by_7 = refl; by_16 = refl }
