-- What a line of a transcript leaves: the engine's call that it asks for, on the bytes that belong to the line. The calls
-- are documents 01's and 02's, by crates/replication/specs/Calls.antt; the van's receiver is that of crates/van/specs/Receive.antt.
use Rattle.std.specs.Prelude.{Bool, true, false, cond, List, ℕ, ◌+◌, ◌*◌, ◌-◌}
use Rattle.carts.specs.Bytes.{zeros, part, over}
use Rattle.carts.specs.Refusal.{refusal_number}
use Rattle.edit_log.specs.Log.{record_size, most_operations}
use Rattle.replication.specs.Answer.{Answer, refused, done, waits, answered, setup_answer, count_answer, read_answer}
use Rattle.replication.specs.Memory.{Memory, session_count, session_size}
use Rattle.replication.specs.Calls.{After, setup, commit, preview, send, refresh, read, collect, forward, write, move, load, retire}
use Rattle.replication.specs.declared.control.Control.{Control}
use Rattle.van.specs.Message.{head_size}
use Rattle.van.specs.Answer as Received
use Rattle.van.specs.Receive.{Van, fresh_van, receive}
use Rattle.lines.specs.Text.{part_in}
use Rattle.lines.specs.declared.cursor.Mistake.{Mistake}
use Rattle.lines.specs.declared.parse.Call.{Call}
use Rattle.journal.specs.History.{slot_size, most_bytes}
use Rattle.journal.specs.Progress.{request_in}
use Rattle.report.specs.declared.turn.Came.{Came}

-- what is told of a line: the answer and what its call named (studios; session and how many operations; studio and whether
-- it is a send; session; edit; session and studio; nothing), with the van's applied number after a message that was received and the
-- records that the log uses after a retire, or that it made no call
pub data Told : Type 0 where
  set_up : Answer → ℕ → Told
  committed : Answer → ℕ → ℕ → Told
  previewed : Answer → ℕ → ℕ → Told
  sent_or_refreshed : Answer → ℕ → Bool → Told
  looked : Answer → ℕ → Told
  shown : Told
  unread : Mistake → ℕ → Told
  nothing : Told
  unwritten : Answer → ℕ → Told
  received : Received.Answer → ℕ → ℕ → Told
  moved : Answer → ℕ → ℕ → Told
  loaded : Answer → Told
  retired : Answer → ℕ → Told

-- the code's cases, their answers as `Answer`; nothing is lost by it (proofs/MakeLaws.antt, `told_once`)
abbrev pub told : Came → Told
told (Came.Setup a studios) = set_up (setup_answer a) studios
told (Came.Commit a session operations) = committed (count_answer a) session operations
told (Came.Preview a session operations) = previewed (count_answer a) session operations
told (Came.SendOrRefresh a studio sends) = sent_or_refreshed (count_answer a) studio sends
told (Came.Read a session) = looked (read_answer a) session
told Came.Show = shown
told (Came.Unreadable mistake at) = unread mistake at
told Came.Nothing = nothing
told (Came.Unwritten r edit) = unwritten (refused (refusal_number r)) edit
told (Came.Received result edit) = received (Received.receive_answer result.answer) result.applied edit
told (Came.Move a session studio) = moved (count_answer a) session studio
told (Came.Load a) = loaded (count_answer a)
told (Came.Retire a used) = retired (count_answer a) used

-- what a line leaves of the system: what is told of it, control, the three memories, and the block of a read
pub record Made : Type 0 where
  pub told : Told
  pub control : Control
  pub memory : Memory
  pub block : List ℕ

abbrev pub made : Told → Control → Memory → List ℕ → Made
made t c m block = record { told = t; control = c; memory = m; block = block }

-- what a call leaves, told by its answer
abbrev pub leaves : (Answer → Told) → After → List ℕ → Made
leaves tells a block = made (tells a.answer) a.control a.memory block

-- "a retire call, returning the count retired" (02, S-9): told with the records that the log uses after it
abbrev pub retire_leaves : Control → Memory → List ℕ → Made
retire_leaves c m block = let a = retire c m in leaves (λ x. retired x a.control.used) a block

-- the output of a read is the rest of its block, after its request
abbrev pub output_in : List ℕ → List ℕ
output_in block = part block slot_size (most_bytes - slot_size)

-- what a read leaves, its output in the rest of its block
abbrev pub leaves_in : (Answer → Told) → After → List ℕ → Made
leaves_in tells a block = leaves tells a (over block slot_size (most_bytes - slot_size) a.output)

-- what a read, a collect or a forward of session s leaves: the request at the start of the block, the output in the rest of it
unfoldable pub ask_leaves : ℕ → (List ℕ → After) → List ℕ → List ℕ → Made
ask_leaves s does request block =
    let asked = request_in block request in
    leaves_in (λ a. looked a s) (does (output_in asked)) asked

-- "Read (session, request)", or "the Forward method of source document 004 as a second reading call" (02, S-4)
unfoldable pub read_or_forward : Bool → Control → Memory → ℕ → List ℕ → List ℕ → After
read_or_forward forwards c m s request output = cond forwards (forward c m s request output) (read c m s request output)

unfoldable pub read_leaves : Control → Memory → ℕ → Bool → List ℕ → List ℕ → Made
read_leaves c m s forwards request block = ask_leaves s (read_or_forward forwards c m s request) request block

-- "Collect (session)", with the request that was kept for the session
unfoldable pub collect_leaves : Control → Memory → ℕ → List ℕ → List ℕ → Made
collect_leaves c m s store block = ask_leaves s (collect c m s) (part_in store (slot_size * (s - 1)) slot_size) block

-- what a line leaves of the system, and of the van's copy
pub record Left : Type 0 where
  pub made : Made
  pub copy : List ℕ

abbrev pub beside : List ℕ → Made → Left
beside copy x = record { made = x; copy = copy }

-- the van's copy by what a setup answers: "A fresh van has an empty copy" (02, S-6); its applied number is the journal's
unfoldable pub copy_after : Answer → List ℕ → List ℕ
copy_after (done n) copy = fresh_van.copy
copy_after (refused n) copy = copy
copy_after (waits n) copy = copy
copy_after (answered state found) copy = copy

-- "Setup (S and 16 studio bytes)"
unfoldable pub setup_leaves : Memory → List ℕ → ℕ → List ℕ → List ℕ → Left
setup_leaves m copy studios places block =
    let a = setup m studios places in
    beside (copy_after a.answer copy) (leaves (λ x. set_up x studios) a block)

-- what becomes of the message of an edit: what is told of it, and the van's copy
pub record Delivery : Type 0 where
  pub told : Told
  pub copy : List ℕ

abbrev pub delivery : Told → List ℕ → Delivery
delivery t copy = record { told = t; copy = copy }

-- by what the writer answers: so many bytes of its output are received by the van; or there is no message
unfoldable pub delivered : Van → ℕ → List ℕ → Answer → Delivery
delivered v edit output (done size) =
    let r = receive v (part_in output 0 size) in
    delivery (received r.answer r.van.applied edit) r.van.copy
delivered v edit output (refused row) = delivery (unwritten (refused row) edit) v.copy
delivered v edit output (waits n) = delivery (unwritten (waits n) edit) v.copy
delivered v edit output (answered state found) = delivery (unwritten (answered state found) edit) v.copy

-- "build a writer at the head end and a receiver" (02, S-6): the writer's output is long enough for every message
unfoldable pub van_leaves : Control → Memory → Van → ℕ → List ℕ → Left
van_leaves c m v edit block =
    let w = write c m edit (zeros (head_size + record_size * most_operations)) in
    let d = delivered v edit w.output w.answer in
    beside d.copy (made d.told w.control w.memory block)

-- a line's call, with its bytes at the start of the payload and the requests of reads that wait in the store; a van beside it. The last are "a call
-- that moves a session to another studio" (02, S-7), "a load call that tests it and returns commits" (S-8) and "a retire call" (S-9)
unfoldable pub line_leaves : Control → Memory → Van → List ℕ → Call → List ℕ → List ℕ → Left
line_leaves c m v store (Call.Setup studios) payload block = setup_leaves m v.copy studios (part_in payload 0 session_count) block
line_leaves c m v store (Call.Commit s n) payload block = beside v.copy (leaves (λ a. committed a s n) (commit c m s (part_in payload 0 (record_size * n))) block)
line_leaves c m v store (Call.Preview s n) payload block = beside v.copy (leaves (λ a. previewed a s n) (preview c m s (part_in payload 0 (record_size * n))) block)
line_leaves c m v store (Call.Send i) payload block = beside v.copy (leaves (λ a. sent_or_refreshed a i true) (send c m i) block)
line_leaves c m v store (Call.Refresh i) payload block = beside v.copy (leaves (λ a. sent_or_refreshed a i false) (refresh c m i) block)
line_leaves c m v store (Call.Read s forwards) payload block = beside v.copy (read_leaves c m s forwards (part_in payload 0 session_size) block)
line_leaves c m v store (Call.Collect s) payload block = beside v.copy (collect_leaves c m s store block)
line_leaves c m v store Call.Show payload block = beside v.copy (made shown c m block)
line_leaves c m v store (Call.Unreadable mistake at) payload block = beside v.copy (made (unread mistake at) c m block)
line_leaves c m v store Call.Nothing payload block = beside v.copy (made nothing c m block)
line_leaves c m v store (Call.Van edit) payload block = van_leaves c m v edit block
line_leaves c m v store (Call.Move s i) payload block = beside v.copy (leaves (λ a. moved a s i) (move c m s i) block)
line_leaves c m v store Call.Load payload block = beside v.copy (leaves loaded (load c m) block)
line_leaves c m v store Call.Retire payload block = beside v.copy (retire_leaves c m block)
