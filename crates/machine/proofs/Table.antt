-- The table of twelve, reads while transactions are sent and not applied, and previews, on the plain machine by computation.
use mathlib.Core.Path.{◌≡◌, refl}
use mathlib.Core.List.{List, [], ◌∷◌, ◌++◌}
use lib.ListN.{take}
use Rattle.carts.specs.Bytes.{zeros, u16, u32, u16s, u16_bytes, within, all, every, any, all_zero, pairwise, parts}
use Rattle.carts.specs.Cart.{cart_at, printable, title_form, has_title, no_title, has_audio, no_audio, held}
use Rattle.carts.specs.Operation.{operation_fields, operation_form, spaced, operations_of, made, retitled, recut, meets_cart, effect, acted_on, meets, act, meets_all, act_all}
use Rattle.carts.specs.Transaction.{replay, L, met_from, records_used}
use Rattle.carts.specs.Title.{shown_by_numbers, found_by_numbers, same_letter, titled, titled_from, titled_in, the_one}
use Rattle.edit_log.specs.Log.{up_from}
use Rattle.replication.specs.Log.{no_room}
use Rattle.replication.specs.Message.{joined, message_of}
use Rattle.replication.specs.Request.{numbers_in, request_of, numbers_form, request_fields, request_form, is_waiting, needed, found_in, shown_from}
use Rattle.replication.specs.Rows.{stopped, unless, setup_rows, session_row, studio_row, size_form, commit_rows, send_rows, refresh_rows, read_rows, collect_rows, write_rows, move_rows, load_rows, retire_rows}
use Rattle.replication.specs.Calls.{number_after}
use Rattle.machine.specs.Machine as Machine
use Rattle.machine.specs.Machine.{after_calls}
use Rattle.replication.specs.Answer.{refused, done, waits, answered}
use Rattle.replication.specs.Call.{Call, commit, preview, send, refresh, read, collect, run, final}
use Rattle.machine.specs.OneCopy.{Event, event}
use Rattle.machine.specs.Table.{studio_bytes, top_hour_a, long_title, payload, new, A, withdraw7, cart_read, seven, title_read, buffer, holding, cases2to10, case11, case12, calls_of, Table}
use Rattle.machine.proofs.Entries.{plain_history}

-- what setup leaves
unfoldable pub start : Machine.Step
start = Machine.setup 2 studio_bytes

pub started : start.answer ≡ done 0
unfolding start studio_bytes Machine.setup setup_rows stopped unless all within every zeros
started = refl

-- a list's history from that start; whoever unfolds this unfolds all that the plain machine computes a history with
unfoldable pub computed : List Call → List Event
unfolding zeros u16 u32 u16s u16_bytes within all every any all_zero pairwise parts cart_at printable title_form has_title no_title has_audio no_audio held operation_fields operation_form spaced operations_of made retitled recut meets_cart effect acted_on meets act meets_all act_all shown_by_numbers found_by_numbers same_letter titled titled_from titled_in the_one top_hour_a no_room numbers_in request_of numbers_form request_fields request_form is_waiting needed found_in shown_from stopped unless setup_rows session_row studio_row size_form commit_rows send_rows refresh_rows read_rows collect_rows write_rows move_rows load_rows retire_rows up_from joined message_of number_after replay L met_from records_used Machine.fresh Machine.setup Machine.refused_commit Machine.commit Machine.preview Machine.send Machine.refresh Machine.answer_from Machine.block Machine.wait Machine.read Machine.collect Machine.forward Machine.write Machine.move Machine.load Machine.retire Machine.call run final plain_history start A buffer holding studio_bytes payload new withdraw7 cart_read seven
computed H = plain_history start H

pub table : Table (plain_history start) (after_calls start (calls_of cases2to10)).next.log
unfolding computed long_title title_read cases2to10 case11 case12
table = record { fresh = refl; followed = refl; audio = refl; empty = refl; long_titles = refl; one_title = refl }

-- 02, S-3: cases 8 and 10, which are refused with 8, leave session 1's number at commits
pub case_8_number : (Machine.session_of (after_calls start (calls_of (take 9 cases2to10))).next 1).number ≡ 1
unfolding computed cases2to10
case_8_number = refl

pub case_10_number : (Machine.session_of (after_calls start (calls_of cases2to10)).next 1).number ≡ 2
unfolding computed cases2to10
case_10_number = refl

-- a studio that lags behind what it was sent: its reads show the state that it has applied
unfoldable pub lagging : List Event
lagging =
    event (commit 2 A) (done 1) []
    ∷ event (send 1) (done 1) []
    ∷ event (read 1 seven buffer) (answered 0 0) (holding (zeros 80))
    ∷ event (read 2 seven buffer) (waits 1) buffer
    ∷ event (read 2 seven buffer) (refused 4) buffer
    ∷ event (collect 2 buffer) (waits 1) buffer
    ∷ event (refresh 1) (done 1) []
    ∷ event (collect 2 buffer) (answered 1 1) (holding A)
    ∷ event (commit 2 withdraw7) (done 2) []
    ∷ event (commit 2 A) (done 3) []
    ∷ event (send 1) (done 2) []
    ∷ event (send 1) (done 3) []
    ∷ event (refresh 1) (done 2) []
    ∷ event (read 1 seven buffer) (answered 2 0) (holding (zeros 80))
    ∷ []

pub applied_shown : plain_history start (calls_of lagging) ≡ lagging
unfolding computed lagging
applied_shown = refl

-- cases 2 to 10 retire nothing
pub none_retired : (after_calls start (calls_of cases2to10)).next.retired ≡ 0
unfolding computed cases2to10
none_retired = refl

-- previews: commit's number and refusals, also in a session whose read is waiting, and nothing of it is left
unfoldable pub trying : List Event
trying =
    event (preview 1 A) (done 1) []
    ∷ event (preview 1 A) (done 1) []
    ∷ event (preview 1 (new 8 top_hour_a ++ new 8 top_hour_a)) (refused 8) []
    ∷ event (preview 17 A) (refused 3) []
    ∷ event (read 1 seven buffer) (answered 0 0) (holding (zeros 80))
    ∷ event (commit 2 A) (done 1) []
    ∷ event (preview 1 A) (refused 8) []
    ∷ event (read 1 seven buffer) (answered 0 0) (holding (zeros 80))
    ∷ event (preview 2 (withdraw7 ++ A)) (done 2) []
    ∷ event (read 2 seven buffer) (waits 1) buffer
    ∷ event (preview 2 withdraw7) (refused 4) []
    ∷ event (commit 1 withdraw7) (done 2) []
    ∷ event (preview 1 A) (done 3) []
    ∷ []

pub preview_tried : plain_history start (calls_of trying) ≡ trying
unfolding computed trying
preview_tried = refl
