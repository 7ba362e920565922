-- Setup and the calls of documents 01 and 02 on bytes, for any control, memory, arguments and output: what the code's contracts cite.
-- "Commit acts by this same effect on the head end's copy, refresh on its studio's, and an answered read is taken from the copy of
-- its session's studio, each also where that copy is no L(n)"; by S-4 a forwarded one may be taken from the head end's.
use Rattle.std.specs.Prelude.{cond, List, [], ℕ, ◌+◌, ◌-◌, max, length, set, leb, eqb}
use Rattle.carts.specs.Bytes.{zeros, over}
use Rattle.carts.specs.Operation.{operations_of, act_all}
use Rattle.replication.specs.Answer.{Answer, refused, done, waits, answered}
use Rattle.replication.specs.Memory.{Memory, memory, library_size, sixth, sessions_size, session_size, session_count, studio_count, copy_at, with_copy, session_at, with_session, sequence_of, with_sequence, with_number, nth, studio_of}
use Rattle.edit_log.specs.Log.{record_count, records_of, transaction_at, next_transaction, follow, back}
use Rattle.edit_log.specs.Writes.{fresh_log, appended, released}
use Rattle.replication.specs.Log.{log_count, transaction_after}
use Rattle.replication.specs.Message.{message_in}
use Rattle.replication.specs.Request.{Request, request_of, needed, found_in, shown_from}
use Rattle.replication.specs.Rows.{unless, setup_stop, commit_stop, send_stop, refresh_stop, read_stop, collect_stop, write_stop, move_stop, load_stop, retire_stop}
use Rattle.replication.specs.Call as Call
use Rattle.replication.specs.declared.control.Control.{Control}

-- what a call answers and leaves: control, the three memories, output ([] where none is lent)
pub record After : Type 0 where
  pub answer : Answer
  pub control : Control
  pub memory : Memory
  pub output : List ℕ

abbrev pub after : Answer → Control → Memory → List ℕ → After
after a c m out = record { answer = a; control = c; memory = m; output = out }

-- "The result is the number; control comes back unchanged"; a refused call changes no lent byte, commit's 8 apart (`refused_commit`)
abbrev pub refusal : Control → Memory → List ℕ → ℕ → After
refusal c m out n = after (refused n) c m out

abbrev pub with_library : Memory → List ℕ → Memory
with_library m library = memory library m.log m.sessions

abbrev pub with_sessions : Memory → List ℕ → Memory
with_sessions m sessions = memory m.library m.log sessions

-- "S; each session's studio; records used; commits; for each studio sent and applied"; S-9: "Control gains the count retired, the oldest transaction's
-- first record, and the free chain's first and last record (0 for none)"
abbrev pub control : ℕ → List ℕ → ℕ → ℕ → List ℕ → List ℕ → ℕ → ℕ → ℕ → ℕ → Control
control S places used commits sent applied retired oldest first last = record {
  studios = S;
  session_studios = places;
  used = used;
  commits = commits;
  sent = sent;
  applied = applied;
  retired = retired;
  oldest = oldest;
  free_first = first;
  free_last = last;
}

-- control with other counts of the studios
abbrev pub with_counts : Control → List ℕ → List ℕ → Control
with_counts c sent applied = control c.studios c.session_studios c.used c.commits sent applied c.retired c.oldest c.free_first c.free_last

-- control with another log: used, commits, retired, oldest, and the free chain
abbrev pub with_log : Control → ℕ → ℕ → ℕ → ℕ → ℕ → ℕ → Control
with_log c used commits retired oldest first last = control c.studios c.session_studios used commits c.sent c.applied retired oldest first last

-- control with every count zero, and a free chain
unfoldable pub control_of : ℕ → List ℕ → ℕ → ℕ → Control
control_of studios sessions first last = control studios sessions 0 0 (zeros studio_count) (zeros studio_count) 0 0 first last

-- "all memory zero"; S-9: "after setup the free chain is 1 to 512 in order"
unfoldable pub fresh_memory : Memory
fresh_memory = memory (zeros library_size) fresh_log (zeros sessions_size)

-- "Setup (S and 16 studio bytes): all memory zero, counts zero. When refused it hands back an all-zero control." Of the log S-9 says what it is.
unfoldable pub setup : Memory → ℕ → List ℕ → After
setup m studios bytes =
    unless (setup_stop m studios bytes) (refusal (control_of 0 (zeros session_count) 0 0) m []) (after (done 0) (control_of studios bytes 1 record_count) fresh_memory [])

-- control after a commit of n operations: S-9, "Commit takes records from the front of the free chain", the rest of which begins at `next`
unfoldable pub committed : Control → ℕ → ℕ → Control
committed c n next =
    with_log c (c.used + n) (c.commits + 1) c.retired (cond (eqb (log_count c) 0) c.free_first c.oldest) next (cond (eqb next 0) 0 c.free_last)

-- 02, S-3, "told that the cart is taken": "A commit refused with 8 now raises the session's number to commits": the sessions, by the number of
-- the row that stops the commit
unfoldable pub told_sessions : List ℕ → ℕ → ℕ → ℕ → List ℕ
told_sessions sessions s commits n = cond (eqb n 8) (with_number sessions s commits) sessions

-- what a commit that a row stops leaves: S-3, ".. and changes nothing else. .. Only here does a refusal change a lent byte."
unfoldable pub refused_commit : Control → Memory → ℕ → ℕ → After
refused_commit c m s n = refusal c (with_sessions m (told_sessions m.sessions s c.commits n)) [] n

-- "Commit (session, 1 to 8 operations): .. all are applied and appended, or none. The commit's number is the new count; the session's
-- number becomes it. Returns it."
unfoldable pub commit : Control → Memory → ℕ → List ℕ → After
commit c m s bytes =
    let ops = operations_of bytes in
    let n = c.commits + 1 in
    let library = with_copy m.library 0 (act_all (copy_at m.library 0) ops) in
    let sessions = with_number m.sessions s n in
    let log = appended (log_count c) m.log c.oldest c.free_first ops in
    let next = follow (length ops) m.log c.free_first in
    unless (commit_stop c m s bytes) (refused_commit c m s) (after (done n) (committed c (length ops) next) (memory library log sessions) [])

-- 02, S-1, "a preview of commit": "For every input it returns the number or refusal that commit would. It changes nothing that was lent or
-- passed."
unfoldable pub preview : Control → Memory → ℕ → List ℕ → After
preview c m s bytes = after (commit c m s bytes).answer c m []

-- "Send (studio): sent rises by one. Returns it."
unfoldable pub with_sent : Control → ℕ → ℕ → Control
with_sent c i n = with_counts c (set c.sent (i - 1) n) c.applied

unfoldable pub send : Control → Memory → ℕ → After
send c m i =
    let n = nth c.sent i + 1 in
    unless (send_stop c m i) (refusal c m []) (after (done n) (with_sent c i n) m [])

-- "Refresh (studio): transaction applied + 1 acts on that studio's copy; applied rises by one. Returns it."
unfoldable pub with_applied : Control → ℕ → ℕ → Control
with_applied c i n = with_counts c c.sent (set c.applied (i - 1) n)

unfoldable pub refresh : Control → Memory → ℕ → After
refresh c m i =
    let k = nth c.applied i in
    let copy = act_all (copy_at m.library i) (transaction_after c m.log k) in
    unless (refresh_stop c m i) (refusal c m []) (after (done (k + 1)) (with_applied c i (k + 1)) (with_library m (with_copy m.library i copy)) [])

-- a rule for a session's number: what it is after an answer of the studio's copy, by the number before and the state that was shown
abbrev pub Rule : Type 0
Rule = ℕ → ℕ → ℕ

-- 02, S-7: "a read answered by any reading call or by collect now raises the session's number to the state it showed, if that is higher"
unfoldable pub number_after : Rule
number_after number state = max number state

-- the rule of before, 01's "A read does not change the session's number". No call goes by it: it stays for S-7's "In a list without moves every
-- answer is the same as it was".
unfoldable pub number_kept : Rule
number_kept number state = number

-- "An answered read returns the state (applied) and found, and writes from output's start. .. Later output bytes are unchanged":
-- from a copy that has reached `state` (the head end's: S-4, "with state commits"); session s is left with the bytes x and the number n
unfoldable pub answer_from : ℕ → List ℕ → Request → Control → Memory → ℕ → ℕ → List ℕ → List ℕ → After
answer_from state copy q c m s n x out =
    after (answered state (found_in copy q)) c
    (with_sessions m (with_session m.sessions s (with_sequence n x)))
    (over out 0 (needed q) (shown_from copy q))

-- "if applied of the session's studio is at least the session's number, answered; else ..": `behind`; by a rule
unfoldable pub block_by : Rule → Control → Memory → ℕ → Request → List ℕ → After → List ℕ → After
block_by rule c m s q x behind out =
    let i = studio_of c s in
    let state = nth c.applied i in
    let n = sequence_of (session_at m.sessions s) in
    cond (leb n state) (answer_from state (copy_at m.library i) q c m s (rule n state) x out) behind

-- a reading call that brings its request, S-4's "with read's requests, outputs, checks and order": read's rows, then the block step. Where the studio's
-- copy answers, the session keeps its bytes but for its number.
abbrev pub reading_by : Rule → Control → Memory → ℕ → List ℕ → After → List ℕ → After
reading_by rule c m s request behind out =
    unless (read_stop c m s request (length out)) (refusal c m out) (block_by rule c m s (request_of request) (session_at m.sessions s) behind out)

-- "Read (session, request): .. else the request is stored and the answer is waits, with the session's number"
unfoldable pub read_by : Rule → Control → Memory → ℕ → List ℕ → List ℕ → After
read_by rule c m s request out =
    let n = sequence_of (session_at m.sessions s) in
    reading_by rule c m s request (after (waits n) c (with_sessions m (with_session m.sessions s (with_sequence n request))) out) out

-- "Collect (session): the same test on the stored request; answered clears it and keeps bytes 2–3" (S-7: by the rule), else "waits, with the session's
-- number"
unfoldable pub collect_by : Rule → Control → Memory → ℕ → List ℕ → After
collect_by rule c m s out =
    let x = session_at m.sessions s in
    let behind = after (waits (sequence_of x)) c m out in
    unless (collect_stop c m s (length out)) (refusal c m out) (block_by rule c m s (request_of x) (zeros session_size) behind out)

-- 02, S-4, "the Forward method .. with read's requests, outputs, checks and order. Where the studio's copy has reached the session's number, it answers
-- exactly as read does. Otherwise it answers from the head end's copy with state commits, and the session's number becomes commits."
unfoldable pub forward_by : Rule → Control → Memory → ℕ → List ℕ → List ℕ → After
forward_by rule c m s request out =
    let x = session_at m.sessions s in
    reading_by rule c m s request (answer_from c.commits (copy_at m.library 0) (request_of request) c m s c.commits x out) out

-- 02, S-6, the van's writer: it "puts one message at its output's start, leaves later bytes, returns the message's length"
unfoldable pub write : Control → Memory → ℕ → List ℕ → After
write c m n out =
    let x = message_in c m.log n in
    unless (write_stop c m n (length out)) (refusal c m out) (after (done (length x)) c m (over out 0 (length x) x))

-- 02, S-7, "a call that moves a session to another studio": its studio in control; no lent byte
unfoldable pub with_studio : Control → ℕ → ℕ → Control
with_studio c s i = control c.studios (set c.session_studios (s - 1) i) c.used c.commits c.sent c.applied c.retired c.oldest c.free_first c.free_last

-- ".. returns that studio"
unfoldable pub move : Control → Memory → ℕ → ℕ → After
move c m s i = unless (move_stop c m s i) (refusal c m []) (after (done i) (with_studio c s i) m [])

-- 02, S-8, "a load call that tests it and returns commits": it changes nothing that was lent or passed
unfoldable pub load : Control → Memory → After
load c m = unless (load_stop c m) (refusal c m []) (after (done c.commits) c m [])

-- control after a retire: S-9, "its records join a chain of free records", and the next transaction is the oldest
unfoldable pub retired_control : Control → List ℕ → Control
retired_control c log =
    let own = records_of log c.oldest in
    with_log c (c.used - length own) c.commits (c.retired + 1) (next_transaction log c.oldest) (cond (eqb c.free_first 0) c.oldest c.free_first) (back 0 own)

-- 02, S-9, "a retire call, returning the count retired: the oldest transaction .. acts on a sixth copy .., and its records join a chain of free records"
unfoldable pub retire : Control → Memory → After
retire c m =
    let copy = act_all (copy_at m.library sixth) (transaction_at m.log c.oldest) in
    let left = memory (with_copy m.library sixth copy) (released m.log c.oldest c.free_last) m.sessions in
    unless (retire_stop c m) (refusal c m []) (after (done (c.retired + 1)) (retired_control c m.log) left [])

-- each call, the reading calls and collect by a rule
unfoldable pub call_by : Rule → Control → Memory → Call.Call → After
call_by rule c m (Call.commit s bytes) = commit c m s bytes
call_by rule c m (Call.preview s bytes) = preview c m s bytes
call_by rule c m (Call.send i) = send c m i
call_by rule c m (Call.refresh i) = refresh c m i
call_by rule c m (Call.read s request out) = read_by rule c m s request out
call_by rule c m (Call.collect s out) = collect_by rule c m s out
call_by rule c m (Call.forward s request out) = forward_by rule c m s request out
call_by rule c m (Call.write n out) = write c m n out
call_by rule c m (Call.move s i) = move c m s i
call_by rule c m Call.load = load c m
call_by rule c m Call.retire = retire c m

-- a list of calls by a rule, each given what the call before it left and handed back
abbrev pub run_by : Rule → After → List Call.Call → List (Call.Turn After)
run_by rule r H = Call.run (λ p x. call_by rule p.control p.memory x) r H

-- The calls that there are: by S-7's rule.
abbrev pub block : Control → Memory → ℕ → Request → List ℕ → After → List ℕ → After
block c m s q x behind out = block_by number_after c m s q x behind out

abbrev pub read : Control → Memory → ℕ → List ℕ → List ℕ → After
read c m s request out = read_by number_after c m s request out

abbrev pub collect : Control → Memory → ℕ → List ℕ → After
collect c m s out = collect_by number_after c m s out

abbrev pub forward : Control → Memory → ℕ → List ℕ → List ℕ → After
forward c m s request out = forward_by number_after c m s request out

abbrev pub call : Control → Memory → Call.Call → After
call c m x = call_by number_after c m x

-- lists of them, and what a list leaves
abbrev pub run : After → List Call.Call → List (Call.Turn After)
run r H = run_by number_after r H

abbrev pub after_calls : After → List Call.Call → After
after_calls r H = Call.final r (run r H)
