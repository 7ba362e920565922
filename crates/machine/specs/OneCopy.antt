-- STATEMENT. Document 01, "The one-copy order", sentence by sentence, with document 02's S-3, S-4, S-8 and S-9: what demand 3 claims of the calls on bytes.
use Rattle.std.specs.Prelude.{◌≡◌, cond, ℕ, ◌+◌, length, take, eqb}
use mathlib.Core.List.{List, [], ◌∷◌, ◌++◌, map, Permᴰ}
use Rattle.carts.specs.Operation.{operations_of}
use Rattle.carts.specs.Transaction.{Transaction}
use Rattle.replication.specs.Answer.{Answer, refused, done, waits, answered}
use Rattle.replication.specs.Memory.{Memory, Arrays, sixth, copy_at, session_at}
use Rattle.replication.specs.Log.{logged}
use Rattle.replication.specs.Request.{Request, request_of, is_waiting, needed}
use Rattle.replication.specs.Call.{Call, Turn, commit, preview, send, refresh, read, collect, forward, write, move, load, retire}
use Rattle.replication.specs.Calls as Bytes
use Rattle.replication.specs.declared.control.Control.{Control}
use Rattle.machine.specs.Library.{Input, operations, request, Reply, number, at, refused8, shown, Library, library, empty_library, play}

-- a call of H, the answer that it gave, and its output "as they stood when its call ended"
pub record Event : Type 0 where
  pub call : Call
  pub answer : Answer
  pub output : List ℕ

abbrev pub event : Call → Answer → List ℕ → Event
event x a out = record { call = x; answer = a; output = out }

-- the event of a call and what it left; the events of a list H whose first call is given what r left
abbrev pub event_of : Turn Bytes.After → Event
event_of t = event t.call t.left.answer t.left.output

unfoldable pub history : Bytes.After → List Call → List Event
history r H = map event_of (Bytes.run r H)

-- an event with the commits of the control that its call handed back: S-3, "that many commits"
pub record Counted : Type 0 where
  pub event : Event
  pub commits : ℕ

abbrev pub counted : Event → ℕ → Counted
counted e n = record { event = e; commits = n }

unfoldable pub counted_history : Bytes.After → List Call → List Counted
counted_history r H = map (λ t. counted (event_of t) t.left.control.commits) (Bytes.run r H)

-- an entry: its place in H, its session, what the single library is fed, and what H answered
pub record Entry : Type 0 where
  pub place : ℕ
  pub session : ℕ
  pub input : Input
  pub reply : Reply

abbrev pub entry : ℕ → ℕ → Input → Reply → Entry
entry i s x r = record { place = i; session = s; input = x; reply = r }

-- "Its entries are accepted commits (those that return a commit's number)". S-3: "A commit refused with 8 .. becomes an entry of the one-copy order,
-- answered by a library of that many commits": the library must refuse it with 8 as well, and must have so many. "Waits and [other] refusals have
-- no entry."
unfoldable pub commit_replies : ℕ → Answer → List Reply
commit_replies commits (done n) = number n ∷ []
commit_replies commits (refused n) = cond (eqb n 8) (at commits refused8 ∷ []) []
commit_replies commits (answered state found) = []
commit_replies commits (waits n) = []

-- ".. and answered reads (those that return a state and found)", a read with what it showed. "Waits and refusals have no entry."
unfoldable pub read_replies : List ℕ → Answer → List Reply
read_replies out (answered state found) = at state (shown found out) ∷ []
read_replies out (done n) = []
read_replies out (refused n) = []
read_replies out (waits n) = []

-- "for a read the state, found and the first 80 × numbers asked bytes of output (80 for a title)"
unfoldable pub read_entry : ℕ → ℕ → Request → Answer → List ℕ → List Entry
read_entry i s q a out = map (entry i s (request q)) (read_replies (take (needed q) out) a)

-- what a call is to the order: a commit or a read, with its session and its bytes; a collect, with its session; or a call that has no entry
pub data Kind : Type 0 where
  writes : ℕ → List ℕ → Kind
  reads : ℕ → List ℕ → Kind
  collects : ℕ → Kind
  neither : Kind

-- 02, S-1, of preview: "It has no entry in the one-copy order." S-4: "The single-library order has to cover lists that mix both reading calls": an answered
-- forward is an entry as an answered read is. S-6: the van's writer answers neither a commit nor a read, so it has none; nor
-- has S-7's move, and "an entry's session is the one its call names", at whatever studio it was; nor S-8's load, nor S-9's retire
unfoldable pub kind_of : Call → Kind
kind_of (commit s bytes) = writes s bytes
kind_of (preview s bytes) = neither
kind_of (send i) = neither
kind_of (refresh i) = neither
kind_of (read s bytes lent) = reads s bytes
kind_of (collect s lent) = collects s
kind_of (forward s bytes lent) = reads s bytes
kind_of (write n lent) = neither
kind_of (move s i) = neither
kind_of load = neither
kind_of retire = neither

-- "An entry's session is the one its call names. A read answered by collect belongs to the collect: it stands where the collect stood in H,
-- and its request is that of the session's latest read call before it that waited": `waited`
unfoldable pub entry_of : ℕ → (ℕ → Request) → Kind → ℕ → Answer → List ℕ → List Entry
entry_of i waited (writes s bytes) commits a out = map (entry i s (operations (operations_of bytes))) (commit_replies commits a)
entry_of i waited (reads s bytes) commits a out = read_entry i s (request_of bytes) a out
entry_of i waited (collects s) commits a out = read_entry i s (waited s) a out
entry_of i waited neither commits a out = []

-- for each session the request of its latest read call that waited
unfoldable pub waited_after : (ℕ → Request) → Kind → Answer → ℕ → Request
waited_after waited (writes s bytes) a j = waited j
waited_after waited (reads s bytes) (waits n) j = cond (eqb j s) (request_of bytes) (waited j)
waited_after waited (reads s bytes) (refused n) j = waited j
waited_after waited (reads s bytes) (done n) j = waited j
waited_after waited (reads s bytes) (answered state found) j = waited j
waited_after waited (collects s) a j = waited j
waited_after waited neither a j = waited j

-- the entries of H from place i on
unfoldable pub entries : ℕ → (ℕ → Request) → List Counted → List Entry
entries i waited [] = []
entries i waited (e ∷ es) =
    let x = e.event in
    let kind = kind_of x.call in
    entry_of i waited kind e.commits x.answer x.output ++ entries (i + 1) (waited_after waited kind x.answer) es

-- the entries of session s, in their order
unfoldable pub of_session : ℕ → List Entry → List Entry
of_session s [] = []
of_session s (e ∷ es) = let rest = of_session s es in cond (eqb s e.session) (e ∷ rest) rest

-- "one order that holds each of them exactly once. In it any two of one session stand as they stood in H": so S-3's "a session's later reads
-- must stand after it" is `sessions`, since a refused commit is an entry. "A single library .. plays them in that order .. and gives every one
-- exactly the answer it gave in H", to a refused commit 8 and its count
pub record OneCopy (start : Library) (E order : List Entry) : Type 0 where
  pub once : Permᴰ E order
  pub sessions : (s : ℕ) → of_session s order ≡ of_session s E
  pub answers : play start (map (λ (e : Entry). e.input) order) ≡ map (λ (e : Entry). e.reply) order

-- DEMAND 3. "A fresh system is what an accepted setup leaves, for any S and studio bytes", and any memory before it; any list H. `none` is what
-- a collect before any read that waited would be given: whatever it is, the claim holds.
abbrev pub Demand3 : Type 0
Demand3 =
    (before : Memory) (studios : ℕ) (bytes : List ℕ) → (Bytes.setup before studios bytes).answer ≡ done 0 →
    (H : List Call) (none : Request) →
    (order : List Entry) × OneCopy empty_library (entries 0 (λ s. none) (counted_history (Bytes.setup before studios bytes) H)) order

-- 02, S-9: "Load works out its copies from the sixth, with which the single library then begins, the retired count already played"
unfoldable pub loaded_library : Control → Memory → Library
loaded_library c m = library c.retired (copy_at m.library sixth)

-- 02, S-8: "the loaded log's transactions, which belong to no session, are the first commits of the one-copy order": from place i and count n on. Their session
-- is 0, which no call can name (row 3).
unfoldable pub loaded : ℕ → ℕ → List Transaction → List Entry
loaded i n [] = []
loaded i n (t ∷ ts) = entry i 0 (operations t) (number (n + 1)) ∷ loaded (i + 1) (n + 1) ts

-- "a collect with no waiting read of its session before it in the list takes the request loaded for that session": the read that waits in session memory, or `none`
unfoldable pub loaded_request : Memory → Request → ℕ → Request
loaded_request m none s = let q = request_of (session_at m.sessions s) in cond (is_waiting q) q none

-- the entries of a list H that begins with what r left: the log's transactions, numbered after the retired ones, then those of H, at the places after them
unfoldable pub entries_from : Bytes.After → Request → List Call → List Entry
entries_from r none H =
    let log = logged r.control r.memory.log in
    loaded 0 r.control.retired log ++ entries (length log) (loaded_request r.memory none) (counted_history r H)

-- "Accepted memory": any control, with arrays as the code has them, and memory that load accepts
pub record Loadable (c : Control) (m : Memory) : Type 0 where
  pub arrays : Arrays c
  pub accepted : (Bytes.load c m).answer ≡ done c.commits

-- DEMAND 3 over loaded memory, S-8: "Accepted memory may then begin a list, and session order is owed over it as from a fresh system": any list H. The library begins
-- with the sixth copy and the count retired (S-9), and is fed the log's transactions too.
abbrev pub Demand3Loaded : Type 0
Demand3Loaded =
    (c : Control) (m : Memory) → Loadable c m →
    (H : List Call) (none : Request) →
    (order : List Entry) × OneCopy (loaded_library c m) (entries_from (Bytes.load c m) none H) order
