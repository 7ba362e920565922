-- Document 01, "Where a call is stopped": for each call its rows, "checked from top to bottom", over what they look at, so that the
-- calls on bytes and the plain machine share them. Rows 1 and 2 are the bytes' own. Row 16 is document 02's, S-2, rows 21 and 17 of
-- the van's writer S-9 and S-6, row 19 of load S-8, row 20 of retire S-9.
use Rattle.std.specs.Prelude.{Bool, ◌&&◌, ◌||◌, not, List, [], ◌∷◌, ◌++◌, ℕ, ◌*◌, ◌-◌, ◌%◌, length, leb, ltb, eqb}
use Rattle.carts.specs.Bytes.{within, all, every, any, pairwise}
use Rattle.carts.specs.Cart.{cart_size}
use Rattle.carts.specs.Operation.{operation_form, spaced, operations_of, meets_all}
use Rattle.carts.specs.Transaction.{Transaction, LFrom, met_from}
use Rattle.replication.specs.Memory.{Memory, sixth, session_count, studio_count, window, lengths_form, copy_at, nth, studio_of}
use Rattle.edit_log.specs.Log.{most_operations, up_from}
use Rattle.replication.specs.Log.{logged, no_room}
use Rattle.replication.specs.Message.{message_in}
use Rattle.replication.specs.Request.{Request, request_of, request_form, is_waiting, needed, waiting_in}
use Rattle.replication.specs.Layout.{of_layout}
use Rattle.replication.specs.declared.control.Control.{Control}
pub use Rattle.carts.specs.Rows.{Row, row}
unfoldable pub use Rattle.carts.specs.Rows.{stopped, unless}

-- "all: lengths"; "all but setup: layout"
unfoldable pub lengths_row : Memory → Row
lengths_row m = row 1 (not (lengths_form m))

unfoldable pub memory_rows : Control → Memory → List Row
memory_rows c m = lengths_row m ∷ row 2 (not (of_layout c m)) ∷ []

-- "setup: studios": "S outside 1–4, not 16 studio bytes, or one above S"
unfoldable pub setup_rows : ℕ → List ℕ → List Row
setup_rows studios bytes =
    row 15 (not (all (within 1 studio_count studios ∷ eqb (length bytes) session_count ∷ every (λ b. leb b studios) bytes ∷ []))) ∷ []

-- "all but setup: who": "session outside 1–16 or unused; studio outside 1–S"
unfoldable pub session_row : ℕ → ℕ → Row
session_row s studio = row 3 (not (within 1 session_count s) || eqb studio 0)

unfoldable pub studio_row : ℕ → ℕ → Row
studio_row studios i = row 3 (not (within 1 studios i))

-- "length not 80 to 640 in steps of 80"
unfoldable pub size_form : List ℕ → Bool
size_form bytes = all (within cart_size (cart_size * most_operations) (length bytes) ∷ eqb (length bytes % cart_size) 0 ∷ [])

-- rows 5 to 7, and S-2's "Refusal 16, such a title in any operation, directly after 6": `used` records; commits; the operations'
-- bytes
abbrev pub form_rows : ℕ → ℕ → List ℕ → List Row
form_rows used commits bytes =
    row 5 (not (size_form bytes))
    ∷ row 6 (not (every operation_form (operations_of bytes)))
    ∷ row 16 (any spaced (operations_of bytes))
    ∷ row 7 (no_room used commits (length (operations_of bytes))) ∷ []

-- and row 8, "commit: carts": "an operation meets its cart in the wrong state"; the head end's copy
abbrev pub operation_rows : ℕ → ℕ → List ℕ → List ℕ → List Row
operation_rows used commits primary bytes = form_rows used commits bytes ++ (row 8 (not (meets_all primary (operations_of bytes))) ∷ [])

-- session s of that studio and waiting read; the head end's copy
unfoldable pub commit_rows : ℕ → ℕ → Request → ℕ → ℕ → List ℕ → List ℕ → List Row
commit_rows s studio waiting used commits primary bytes = session_row s studio ∷ row 4 (is_waiting waiting) ∷ operation_rows used commits primary bytes

-- "send": 9 and 10
abbrev pub window_rows : ℕ → ℕ → ℕ → List Row
window_rows sent applied commits = row 9 (eqb sent commits) ∷ row 10 (eqb (sent - applied) window) ∷ []

unfoldable pub send_rows : ℕ → ℕ → ℕ → ℕ → ℕ → List Row
send_rows studios i sent applied commits = studio_row studios i ∷ window_rows sent applied commits

-- "refresh": 11
unfoldable pub refresh_rows : ℕ → ℕ → ℕ → ℕ → List Row
refresh_rows studios i sent applied = studio_row studios i ∷ row 11 (eqb sent applied) ∷ []

-- "read", and by S-4 forward, "with read's .. checks and order": 4, 12 and 13; the request's bytes; output's length
abbrev pub request_rows : Request → List ℕ → ℕ → List Row
request_rows waiting request room =
    row 4 (is_waiting waiting)
    ∷ row 12 (not (request_form request))
    ∷ row 13 (ltb room (needed (request_of request))) ∷ []

unfoldable pub read_rows : ℕ → ℕ → Request → List ℕ → ℕ → List Row
read_rows s studio waiting request room = session_row s studio ∷ request_rows waiting request room

-- "collect": 14 and 13
abbrev pub waiting_rows : Request → ℕ → List Row
waiting_rows waiting room = row 14 (not (is_waiting waiting)) ∷ row 13 (ltb room (needed waiting)) ∷ []

unfoldable pub collect_rows : ℕ → ℕ → Request → ℕ → List Row
collect_rows s studio waiting room = session_row s studio ∷ waiting_rows waiting room

-- 02, of the van's writer: S-9's "21, number retired, .. directly before 17"; S-6's "17, .. at the writer a number outside 1 to commits or an output too
-- short": the transaction's number, its message's length, output's length
unfoldable pub write_rows : ℕ → ℕ → ℕ → ℕ → ℕ → List Row
write_rows retired commits n size room = row 21 (within 1 retired n) ∷ row 17 (not (within 1 commits n) || ltb room size) ∷ []

-- 02, S-7, of move: "refused by the old 3 and 4 on their conditions": session s of that studio and waiting read; the studio that it moves to
unfoldable pub move_rows : ℕ → ℕ → Request → ℕ → ℕ → List Row
move_rows s studio waiting studios i = session_row s studio ∷ studio_row studios i ∷ row 4 (is_waiting waiting) ∷ []

-- 02, S-8, of load: "Refusal 19, a copy differs from its L, or a logged operation met its cart in the wrong state, after 2": whether the copies are
-- what the log makes; the sixth copy and the log, which acts on it (S-9)
unfoldable pub load_rows : Bool → List ℕ → List Transaction → List Row
load_rows same base log = row 19 (not (same && met_from base log)) ∷ []

-- 02, S-9, of retire: "the oldest transaction, once every studio has applied it"; "Refusals 20, the oldest is still needed or there is none": S, the count
-- retired, commits, what each studio has applied
unfoldable pub retire_rows : ℕ → ℕ → ℕ → List ℕ → List Row
retire_rows studios retired commits applied = row 20 (not (ltb retired commits && every (λ i. ltb retired (nth applied i)) (up_from 1 studios))) ∷ []

-- the number of the row that stops a call on bytes, or 0
unfoldable pub setup_stop : Memory → ℕ → List ℕ → ℕ
setup_stop m studios bytes = stopped (lengths_row m ∷ setup_rows studios bytes)

unfoldable pub commit_stop : Control → Memory → ℕ → List ℕ → ℕ
commit_stop c m s bytes = stopped (memory_rows c m ++ commit_rows s (studio_of c s) (waiting_in m s) c.used c.commits (copy_at m.library 0) bytes)

unfoldable pub send_stop : Control → Memory → ℕ → ℕ
send_stop c m i = stopped (memory_rows c m ++ send_rows c.studios i (nth c.sent i) (nth c.applied i) c.commits)

unfoldable pub refresh_stop : Control → Memory → ℕ → ℕ
refresh_stop c m i = stopped (memory_rows c m ++ refresh_rows c.studios i (nth c.sent i) (nth c.applied i))

unfoldable pub read_stop : Control → Memory → ℕ → List ℕ → ℕ → ℕ
read_stop c m s request room = stopped (memory_rows c m ++ read_rows s (studio_of c s) (waiting_in m s) request room)

unfoldable pub collect_stop : Control → Memory → ℕ → ℕ → ℕ
collect_stop c m s room = stopped (memory_rows c m ++ collect_rows s (studio_of c s) (waiting_in m s) room)

-- "keeps 1 and 2 on their conditions"
unfoldable pub write_stop : Control → Memory → ℕ → ℕ → ℕ
write_stop c m n room = stopped (memory_rows c m ++ write_rows c.retired c.commits n (length (message_in c m.log n)) room)

unfoldable pub move_stop : Control → Memory → ℕ → ℕ → ℕ
move_stop c m s i = stopped (memory_rows c m ++ move_rows s (studio_of c s) (waiting_in m s) c.studios i)

-- "the head end's copy must equal L(commits) and each studio's L(applied), worked out from the log": studios 1 to S; S-9: "from the sixth"
unfoldable pub copies_form : Control → List ℕ → List Transaction → Bool
copies_form c library log =
    let base = copy_at library sixth in
    all (pairwise eqb (copy_at library 0) (LFrom base c.retired log c.commits)
    ∷ every (λ i. pairwise eqb (copy_at library i) (LFrom base c.retired log (nth c.applied i))) (up_from 1 c.studios) ∷ [])

unfoldable pub load_stop : Control → Memory → ℕ
load_stop c m =
    let log = logged c m.log in
    stopped (memory_rows c m ++ load_rows (copies_form c m.library log) (copy_at m.library sixth) log)

unfoldable pub retire_stop : Control → Memory → ℕ
retire_stop c m = stopped (memory_rows c m ++ retire_rows c.studios c.retired c.commits c.applied)
