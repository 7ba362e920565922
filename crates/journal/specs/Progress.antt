-- What a player of a transcript carries from line to line, and how each answer changes it.
use Rattle.std.specs.Prelude.{ℕ, ◌+◌, ◌*◌, ◌%◌, Bool, true, cond, ◌&&◌, List, length, ◌==◌, Result, Ok, Err}
use Rattle.replication.specs.Memory.{session_count}
use Rattle.carts.specs.Bytes.{byte, over, zeros}
use Rattle.carts.specs.Refusal.{refusal_number}
use Rattle.carts.specs.declared.refusal.Refusal.{Refusal}
use Rattle.replication.specs.Calls.{control_of}
use Rattle.replication.specs.declared.control.Control.{Control}
use Rattle.replication.specs.declared.answer.Reading.{Reading}
use Rattle.replication.specs.declared.answer.Reading.TheVariants.{Answered, Waits}
use Rattle.van.specs.Receive.{fresh_van}
use Rattle.van.specs.declared.answer.Received.{Received}
use Rattle.lines.specs.Text.{part_in}
use Rattle.journal.specs.History.{added_entries, added_store, added_history, empty_history, kept_in, slot_size, commit_kind, read_kind, refused_kind}
use Rattle.journal.specs.declared.history.Entry.{Entry}
use Rattle.journal.specs.declared.history.History.{History}
use Rattle.journal.specs.declared.history.Kind.{Kind}
use Rattle.journal.specs.declared.progress.Outcome.{Outcome}
use Rattle.journal.specs.declared.progress.Outcome.TheVariants.{Accepted, Waited, Refused, Unreadable}
use Rattle.journal.specs.declared.progress.Tally.{Tally}
use Rattle.journal.specs.declared.progress.Progress.{Progress}

-- one more, in 32 bits
abbrev pub one_more : ℕ → ℕ
one_more n = (n + 1) % 4294967296

-- one line more of an outcome
unfoldable pub counted : Tally → Outcome → Tally
counted t Accepted = record { accepted = one_more t.accepted; waited = t.waited; refused = t.refused; unreadable = t.unreadable; same = t.same }
counted t Waited = record { accepted = t.accepted; waited = one_more t.waited; refused = t.refused; unreadable = t.unreadable; same = t.same }
counted t Refused = record { accepted = t.accepted; waited = t.waited; refused = one_more t.refused; unreadable = t.unreadable; same = t.same }
counted t Unreadable = record { accepted = t.accepted; waited = t.waited; refused = t.refused; unreadable = one_more t.unreadable; same = t.same }

-- before the first line: no system, no entry, and a fresh van
unfoldable pub start : Progress
start = record { line = 0; control = control_of 0 (zeros session_count) 0 0; history = empty_history; tally = record { accepted = 0; waited = 0; refused = 0; unreadable = 0; same = true }; van_applied = fresh_van.applied }

-- the entries of a system were compared: all are the same on the single library, or not
unfoldable pub compared : Progress → Bool → Progress
compared p same =
    let t = p.tally in
    record { line = p.line; control = p.control; history = p.history; tally = record { accepted = t.accepted; waited = t.waited; refused = t.refused; unreadable = t.unreadable; same = t.same && same }; van_applied = p.van_applied }

-- one line more
unfoldable pub next_line : Progress → Progress
next_line p = record { line = one_more p.line; control = p.control; history = p.history; tally = p.tally; van_applied = p.van_applied }

-- after a line: control and history as they are then, and its outcome counted
unfoldable pub stepped : Progress → Control → History → Outcome → Progress
stepped p control history outcome = record { line = p.line; control = control; history = history; tally = counted p.tally outcome; van_applied = p.van_applied }

-- the van has applied so many edits
unfoldable pub with_van : Progress → ℕ → Progress
with_van p applied = record { line = p.line; control = p.control; history = p.history; tally = p.tally; van_applied = applied }

-- what an answer leaves: the entries, the store, and what is carried on
pub record Kept : Type 0 where
  pub entries : List Entry
  pub store : List ℕ
  pub progress : Progress

abbrev pub kept : List Entry → List ℕ → Progress → Kept
kept entries store p = record { entries = entries; store = store; progress = p }

-- an entry of a kind; its slots are set where it is added
abbrev pub entry_of : Kind → ℕ → ℕ → ℕ → ℕ → Entry
entry_of kind line session number found = record { kind = kind; line = line; session = session; number = number; found = found; first = 0; slots = 0 }

-- after a call that is an entry: one more where there is room
unfoldable pub with_entry : Progress → Control → Outcome → Entry → List ℕ → List Entry → List ℕ → Kept
with_entry p control outcome e payload entries store =
    kept (added_entries p.history e payload entries store) (added_store p.history e payload entries store) (stepped p control (added_history p.history e payload entries store) outcome)

-- a setup: accepted, the entries begin anew, and "A fresh van has an empty copy and applied 0" (02, S-6); refused, memory is unchanged, and the control that there was is kept
unfoldable pub after_setup : Progress → Control → Result (Unit {0}) Refusal → Progress
after_setup p control (Ok _) = with_van (stepped p control empty_history Accepted) fresh_van.applied
after_setup p control (Err r) = stepped p p.control p.history Refused

-- a call without an entry: a send, a refresh, a preview, a move, a load, a retire, or a message that could not be written
unfoldable pub after_count : Progress → Control → Result ℕ Refusal → Progress
after_count p control (Ok n) = stepped p control p.history Accepted
after_count p control (Err r) = stepped p control p.history Refused

-- a commit: accepted, it is an entry with its number and its operations; "refused with 8", it "becomes an entry of the one-copy order, answered by a
-- library of that many commits" (02, S-3): its number is the commits of the control that the call handed back
unfoldable pub after_commit : Progress → Control → Result ℕ Refusal → ℕ → List ℕ → List Entry → List ℕ → Kept
after_commit p control (Ok n) session ops entries store = with_entry p control Accepted (entry_of commit_kind p.line session n 0) ops entries store
after_commit p control (Err r) session ops entries store =
    let told = with_entry p control Refused (entry_of refused_kind p.line session control.commits 0) ops entries store in
    cond (refusal_number r == 8) told (kept entries store (stepped p control p.history Refused))

-- how many carts an answered read shows: one for a title, else one for each number; the request is at the block's start
unfoldable pub places_of : List ℕ → ℕ
places_of block = cond (byte block 0 == 2) 1 (byte block 1)

-- the request and the carts shown after it
unfoldable pub read_bytes : List ℕ → List ℕ
read_bytes block = part_in block 0 (slot_size + slot_size * places_of block)

-- a read, a collect or a forward: answered, it is an entry with its request and carts; where it waits, its request is kept
unfoldable pub after_read : Progress → Control → Result Reading Refusal → ℕ → List ℕ → List Entry → List ℕ → Kept
after_read p control (Ok (Answered state found)) session block entries store = with_entry p control Accepted (entry_of read_kind p.line session state found) (read_bytes block) entries store
after_read p control (Ok (Waits n)) session block entries store = kept entries (kept_in store session (part_in block 0 slot_size)) (stepped p control p.history Waited)
after_read p control (Err r) session block entries store = kept entries store (stepped p control p.history Refused)

-- a message in the van, applied now or held already, with the applied number after it: it is no entry
unfoldable pub after_receive : Progress → Control → ℕ → Result Received Refusal → Progress
after_receive p control applied (Ok _) = stepped (with_van p applied) control p.history Accepted
after_receive p control applied (Err r) = stepped (with_van p applied) control p.history Refused

-- a request, where it is one, at the start of a block
unfoldable pub request_in : List ℕ → List ℕ → List ℕ
request_in block request = cond (length request == slot_size) (over block 0 slot_size request) block
