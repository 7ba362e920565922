-- STATEMENT. Document 02, S-6, sentence by sentence: what a van has after a list of messages from one log.
use Rattle.std.specs.Prelude.{◌≡◌, ℕ, ◌+◌, ◌≤◌, length, take}
use mathlib.Core.List.{List, [], ◌∷◌, ◌++◌, map, Memᴰ, Sublistᴰ}
use Rattle.carts.specs.Operation.{operations_of}
use Rattle.carts.specs.Transaction.{Transaction, L}
use Rattle.replication.specs.Answer.{Answer, refused, done, waits, answered}
use Rattle.replication.specs.Memory.{Memory}
use Rattle.replication.specs.Log.{logged}
use Rattle.edit_log.specs.Log.{up_from}
use Rattle.replication.specs.Call.{Call}
use Rattle.replication.specs.Calls as Bytes
use Rattle.replication.specs.Calls.{After, after_calls}
use Rattle.replication.specs.declared.control.Control.{Control}
use Rattle.machine.specs.OneCopy.{Event, Kind, writes, reads, collects, neither, kind_of, history}
use Rattle.van.specs.Receive.{Van, fresh_van, receive_all}

-- a message: the number that the writer was given, and its bytes
pub record Message : Type 0 where
  pub number : ℕ
  pub bytes : List ℕ

-- the transaction that a call adds to the log: that of an accepted commit
unfoldable pub added : Kind → Answer → List Transaction
added (writes s bytes) (done n) = operations_of bytes ∷ []
added (writes s bytes) (refused n) = []
added (writes s bytes) (waits n) = []
added (writes s bytes) (answered state found) = []
added (reads s bytes) a = []
added (collects s) a = []
added neither a = []

-- the transactions that a list of calls adds, by its answers
unfoldable pub added_in : List Event → List Transaction
added_in [] = []
added_in (e ∷ es) = added (kind_of e.call) e.answer ++ added_in es

-- "one log": the transactions of the log that H begins with, which r left, and those that H adds; 02, S-9: whether or not they are retired in H
unfoldable pub committed_in : After → List Call → List Transaction
committed_in r H = logged r.control r.memory.log ++ added_in (history r H)

-- the writer, given control and memory and some output, wrote the message: it returned its length, and the message stands at output's start
pub record Written (c : Control) (m : Memory) (x : Message) : Type 0 where
  pub lent : List ℕ
  pub size : ℕ
  pub answer : (Bytes.write c m x.number lent).answer ≡ done size
  pub bytes : x.bytes ≡ take size (Bytes.write c m x.number lent).output

-- "written from one log": at any moment of a list H of calls, which is after some first part of it; `r` is what H begins with
pub record WrittenIn (r : After) (H : List Call) (x : Message) : Type 0 where
  pub before : List Call
  pub later : List Call
  pub list : H ≡ before ++ later
  pub then : Written (after_calls r before).control (after_calls r before).memory x

-- "in any order and with any losses and repeats": any list D, each of whose messages was written so
abbrev pub FromOneLog : After → List Call → List Message → Type 0
FromOneLog r H D = (x : Message) → Memᴰ x D → WrittenIn r H x

-- the numbers of a list of messages, in its order
abbrev pub numbers : List Message → List ℕ
numbers D = map (λ (x : Message). x.number) D

-- ".. received from a fresh van": what it has then
abbrev pub van_after : List Message → Van
van_after D = receive_all fresh_van (map (λ (x : Message). x.bytes) D)

-- "the van's copy is L(applied), and applied is exactly the longest run 1, 2, 3, … that can be picked from the list in its order": 1 to applied are a
-- sublist of its numbers, 1 to applied + 1 are not. The log has so many transactions.
pub record Follows (log : List Transaction) (D : List Message) (v : Van) : Type 0 where
  pub copy : v.copy ≡ L log v.applied
  pub known : v.applied ≤ length log
  pub picked : Sublistᴰ (up_from 1 v.applied) (numbers D)
  pub no_more : Sublistᴰ (up_from 1 (v.applied + 1)) (numbers D) → ⊥
