-- Document 01, "The plain machine": no memory and no copies, a list of committed transactions.
use Rattle.std.specs.Prelude.{true, cond, List, [], ◌∷◌, ◌++◌, map, ℕ, ◌+◌, ◌-◌, length, drop, get_or, set, leb, eqb}
use Rattle.carts.specs.Bytes.{zeros, over}
use Rattle.carts.specs.Operation.{operations_of}
use Rattle.carts.specs.Transaction.{Transaction, L, records_used}
use Rattle.replication.specs.Answer.{Answer, refused, done, waits, answered}
use Rattle.replication.specs.Memory.{studio_count, session_count, nth}
use Rattle.replication.specs.Request.{Request, nothing, request_of, needed, found_in, shown_from}
use Rattle.replication.specs.Message.{message_of}
use Rattle.replication.specs.Rows.{stopped, unless, setup_rows, commit_rows, send_rows, refresh_rows, read_rows, collect_rows, write_rows, move_rows, load_rows, retire_rows}
use Rattle.replication.specs.Call as Call
use Rattle.replication.specs.Calls.{number_after}

-- "per session its number and its waiting read", and its studio (0 = unused)
pub record Session : Type 0 where
  pub studio : ℕ
  pub number : ℕ
  pub waiting : Request

abbrev pub session : ℕ → ℕ → Request → Session
session i n q = record { studio = i; number = n; waiting = q }

-- "State: the list of committed transactions; per studio sent and applied; per session its number and its waiting read"; 02, S-9: "The list of committed
-- transactions keeps retired ones", and the count of them
pub record Machine : Type 0 where
  pub studios : ℕ
  pub log : List Transaction
  pub retired : ℕ
  pub sent : List ℕ
  pub applied : List ℕ
  pub sessions : List Session

abbrev pub machine : ℕ → List Transaction → ℕ → List ℕ → List ℕ → List Session → Machine
machine studios log retired sent applied sessions = record { studios = studios; log = log; retired = retired; sent = sent; applied = applied; sessions = sessions }

-- commits
abbrev pub commits : Machine → ℕ
commits m = length m.log

-- the transactions that are not retired
abbrev pub kept : Machine → List Transaction
kept m = drop m.retired m.log

-- session s, counted from 1
abbrev pub session_of : Machine → ℕ → Session
session_of m s = get_or m.sessions (s - 1) (session 0 0 nothing)

-- the machine with another log, another count retired, another sent or applied of studio i, another session s
abbrev pub with_log : Machine → List Transaction → Machine
with_log m log = machine m.studios log m.retired m.sent m.applied m.sessions

abbrev pub with_retired : Machine → ℕ → Machine
with_retired m n = machine m.studios m.log n m.sent m.applied m.sessions

abbrev pub with_sent : Machine → ℕ → ℕ → Machine
with_sent m i n = machine m.studios m.log m.retired (set m.sent (i - 1) n) m.applied m.sessions

abbrev pub with_applied : Machine → ℕ → ℕ → Machine
with_applied m i n = machine m.studios m.log m.retired m.sent (set m.applied (i - 1) n) m.sessions

abbrev pub with_session : Machine → ℕ → Session → Machine
with_session m s x = machine m.studios m.log m.retired m.sent m.applied (set m.sessions (s - 1) x)

-- "the session's number becomes .."
abbrev pub with_number : Machine → ℕ → ℕ → Machine
with_number m s n = let x = session_of m s in with_session m s (session x.studio n x.waiting)

-- what a call answers and leaves, and output after it ([] where none is lent)
pub record Step : Type 0 where
  pub answer : Answer
  pub next : Machine
  pub output : List ℕ

abbrev pub step : Answer → Machine → List ℕ → Step
step a m out = record { answer = a; next = m; output = out }

abbrev pub refusal : Machine → List ℕ → ℕ → Step
refusal m out n = step (refused n) m out

-- no transaction, counts zero
unfoldable pub fresh : ℕ → List ℕ → Machine
fresh studios bytes = machine studios [] 0 (zeros studio_count) (zeros studio_count) (map (λ i. session i 0 nothing) bytes)

-- "Setup (S and 16 studio bytes): .. counts zero. When refused it hands back an all-zero control": no studio, and every session unused.
-- Row 1 is about memory, which the machine has not.
unfoldable pub setup : ℕ → List ℕ → Step
setup studios bytes =
    unless (stopped (setup_rows studios bytes)) (refusal (fresh 0 (zeros session_count)) []) (step (done 0) (fresh studios bytes) [])

-- 02, S-3, "told that the cart is taken": "A commit refused with 8 now raises the session's number to commits, and changes nothing else."
abbrev pub told : Machine → ℕ → Machine
told m s = with_number m s (commits m)

-- what a commit that a row stops leaves, by the row's number
unfoldable pub refused_commit : Machine → ℕ → ℕ → Step
refused_commit m s n = refusal (cond (eqb n 8) (told m s) m) [] n

-- "Commit (session, 1 to 8 operations): .. all are applied and appended, or none. The commit's number is the new count; the session's
-- number becomes it. Returns it."
unfoldable pub commit : Machine → ℕ → List ℕ → Step
commit m s bytes =
    let x = session_of m s in
    let n = commits m + 1 in
    let left = with_number (with_log m (m.log ++ (operations_of bytes ∷ []))) s n in
    unless (stopped (commit_rows s x.studio x.waiting (records_used (kept m)) (commits m) (L m.log (commits m)) bytes)) (refused_commit m s) (step (done n) left [])

-- 02, S-1, "a preview of commit": "For every input it returns the number or refusal that commit would. It changes nothing"
unfoldable pub preview : Machine → ℕ → List ℕ → Step
preview m s bytes = step (commit m s bytes).answer m []

-- "Send (studio): sent rises by one. Returns it."
unfoldable pub send : Machine → ℕ → Step
send m i =
    let n = nth m.sent i + 1 in
    unless (stopped (send_rows m.studios i (nth m.sent i) (nth m.applied i) (commits m))) (refusal m []) (step (done n) (with_sent m i n) [])

-- "Refresh (studio): .. applied rises by one. Returns it."
unfoldable pub refresh : Machine → ℕ → Step
refresh m i =
    let n = nth m.applied i + 1 in
    unless (stopped (refresh_rows m.studios i (nth m.sent i) (nth m.applied i))) (refusal m []) (step (done n) (with_applied m i n) [])

-- "An answered read returns the state (applied) and found, and writes from output's start", from L(state), of the head end "with state commits" (S-4);
-- session s is left with number n
unfoldable pub answer_from : ℕ → ℕ → Request → Machine → ℕ → List ℕ → Step
answer_from state n q m s out =
    let x = session_of m s in
    let copy = L m.log state in
    step (answered state (found_in copy q)) (with_session m s (session x.studio n nothing)) (over out 0 (needed q) (shown_from copy q))

-- "if applied of the session's studio is at least the session's number, answered; else ..": `behind`
unfoldable pub block : Machine → ℕ → Request → Step → List ℕ → Step
block m s q behind out =
    let x = session_of m s in
    let state = nth m.applied x.studio in
    cond (leb x.number state) (answer_from state (number_after x.number state) q m s out) behind

-- ".. the request is stored and the answer is waits, with the session's number"
unfoldable pub wait : Machine → ℕ → Request → List ℕ → Step
wait m s q out = let x = session_of m s in step (waits x.number) (with_session m s (session x.studio x.number q)) out

-- a reading call that brings its request, S-4's "with read's requests, outputs, checks and order": read's rows, then the block step
abbrev pub reading : Machine → ℕ → List ℕ → Step → List ℕ → Step
reading m s request behind out =
    let x = session_of m s in
    unless (stopped (read_rows s x.studio x.waiting request (length out))) (refusal m out) (block m s (request_of request) behind out)

-- "Read (session, request)"
unfoldable pub read : Machine → ℕ → List ℕ → List ℕ → Step
read m s request out = reading m s request (wait m s (request_of request) out) out

-- "Collect (session): the same test on the stored request; answered clears it"
unfoldable pub collect : Machine → ℕ → List ℕ → Step
collect m s out =
    let x = session_of m s in
    unless (stopped (collect_rows s x.studio x.waiting (length out))) (refusal m out) (block m s x.waiting (wait m s x.waiting out) out)

-- 02, S-4, "the Forward method": "Where the studio's copy has reached the session's number, it answers exactly as read does. Otherwise it answers from the
-- head end's copy with state commits, and the session's number becomes commits."
unfoldable pub forward : Machine → ℕ → List ℕ → List ℕ → Step
forward m s request out = reading m s request (answer_from (commits m) (commits m) (request_of request) m s out) out

-- 02, S-6, the van's writer: it "puts one message at its output's start, leaves later bytes, returns the message's length"
unfoldable pub write : Machine → ℕ → List ℕ → Step
write m n out =
    let x = message_of n (get_or m.log (n - 1) []) in
    unless (stopped (write_rows m.retired (commits m) n (length x) (length out))) (refusal m out) (step (done (length x)) m (over out 0 (length x) x))

-- 02, S-7, "a call that moves a session to another studio, returns that studio"
unfoldable pub move : Machine → ℕ → ℕ → Step
move m s i =
    let x = session_of m s in
    unless (stopped (move_rows s x.studio x.waiting m.studios i)) (refusal m []) (step (done i) (with_session m s (session i x.number x.waiting)) [])

-- 02, S-8, "a load call that tests it and returns commits": the machine has no copies, so none differs from its L; "or a logged operation met its cart in the
-- wrong state", of those that are not retired, from L(retired) on (S-9: "from the sixth")
unfoldable pub load : Machine → Step
load m = unless (stopped (load_rows true (L m.log m.retired) (kept m))) (refusal m []) (step (done (commits m)) m [])

-- 02, S-9, "a retire call, returning the count retired": the list of committed transactions stays as it is
unfoldable pub retire : Machine → Step
retire m =
    let n = m.retired + 1 in
    unless (stopped (retire_rows m.studios m.retired (commits m) m.applied)) (refusal m []) (step (done n) (with_retired m n) [])

unfoldable pub call : Machine → Call.Call → Step
call m (Call.commit s bytes) = commit m s bytes
call m (Call.preview s bytes) = preview m s bytes
call m (Call.send i) = send m i
call m (Call.refresh i) = refresh m i
call m (Call.read s request out) = read m s request out
call m (Call.collect s out) = collect m s out
call m (Call.forward s request out) = forward m s request out
call m (Call.write n out) = write m n out
call m (Call.move s i) = move m s i
call m Call.load = load m
call m Call.retire = retire m

-- a list of calls, and what it leaves, as on bytes
abbrev pub run : Step → List Call.Call → List (Call.Turn Step)
run r H = Call.run (λ p x. call p.next x) r H

abbrev pub after_calls : Step → List Call.Call → Step
after_calls r H = Call.final r (run r H)
