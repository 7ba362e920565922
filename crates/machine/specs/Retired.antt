-- STATEMENT. Document 02, S-9, "A log that does not end at 512": what is said of retired transactions, and its story as the table's cases: each call with the answer and the
-- output that it must have. The first list from the table's fresh system; the second from what it left, saved and loaded.
use Rattle.std.specs.Prelude.{◌≡◌, true, List, [], ◌∷◌, ℕ, zero, suc, ◌+◌, ◌≤◌, ◌<◌}
use Rattle.carts.specs.Bytes.{zeros}
use Rattle.replication.specs.Memory.{nth}
use Rattle.replication.specs.Request.{is_waiting}
use Rattle.replication.specs.Answer.{refused, done, waits, answered}
use Rattle.replication.specs.Call.{commit, send, refresh, read, collect, write, load, retire}
use Rattle.machine.specs.Machine.{Machine, session_of}
use Rattle.machine.specs.OneCopy.{Event, event}
use Rattle.machine.specs.Table.{A, withdraw7, seven, buffer, holding}

-- "the oldest transaction, once every studio has applied it": nobody needs what is retired
pub record Unneeded (m : Machine) : Type 0 where
  -- no studio 1 to S, which has it
  pub studios : (i : ℕ) → 1 ≤ i → i ≤ m.studios → m.retired ≤ nth m.applied i
  -- no read that waits for its studio to reach its session's number: each transaction k on the way there is still in the log
  pub waiting : (s : ℕ) → let x = session_of m s in let state = nth m.applied x.studio in
      1 ≤ x.studio → is_waiting x.waiting ≡ true → (k : ℕ) → state < k → k ≤ x.number → m.retired < k

-- every studio 1 to S has applied every commit
abbrev pub Level : ℕ → ℕ → List ℕ → Type 0
Level studios commits applied = (i : ℕ) → 1 ≤ i → i ≤ studios → nth applied i ≡ commits

-- "a retire call, returning the count retired": n of them, all accepted, where k are retired before
unfoldable pub retirings : ℕ → ℕ → List Event
retirings zero k = []
retirings (suc n) k = event retire (done (k + 1)) [] ∷ retirings n (k + 1)

-- Sessions 1 and 2 are at studio 1, session 3 is at studio 2.
unfoldable pub week : List Event
week =
    -- "20, the oldest is still needed or there is none": there is none; then studios 1 and 2 need it; then studio 2, to which it is sent
    event retire (refused 20) []
    ∷ event (commit 1 A) (done 1) []
    ∷ event (commit 3 withdraw7) (done 2) []
    ∷ event retire (refused 20) []
    ∷ event (send 1) (done 1) [] ∷ event (refresh 1) (done 1) []
    ∷ event retire (refused 20) []
    ∷ event (send 2) (done 1) []
    ∷ event retire (refused 20) []
    ∷ event (refresh 2) (done 1) []
    -- "returning the count retired"; nobody has applied the second
    ∷ event retire (done 1) []
    ∷ event retire (refused 20) []
    -- "21, number retired, at the van's writer, directly before 17", whatever output is; 0 and 3 are no retired numbers
    ∷ event (write 1 (zeros 84)) (refused 21) (zeros 84)
    ∷ event (write 1 []) (refused 21) []
    ∷ event (write 0 (zeros 84)) (refused 17) (zeros 84)
    ∷ event (write 3 (zeros 84)) (refused 17) (zeros 84)
    ∷ event (write 2 (zeros 84)) (done 84) (2 ∷ 0 ∷ 1 ∷ 0 ∷ withdraw7)
    -- "The list of committed transactions keeps retired ones": the cart that it filled is shown, and load finds that the second withdrew it
    ∷ event (read 1 seven buffer) (answered 1 1) (holding A)
    ∷ event (read 3 seven buffer) (waits 2) buffer
    ∷ event load (done 2) []
    ∷ []

unfoldable pub weekend : List Event
weekend =
    -- "the single library then begins, the retired count already played": session 2 is shown the library before the one loaded transaction, which is number 2
    event (read 2 seven buffer) (answered 1 1) (holding A)
    -- a commit has the next number of all
    ∷ event (commit 2 A) (done 3) []
    ∷ event (send 2) (done 2) [] ∷ event (refresh 2) (done 2) []
    ∷ event (collect 3 buffer) (answered 2 0) (holding (zeros 80))
    -- studio 1 still needs the second
    ∷ event retire (refused 20) []
    ∷ event (send 1) (done 2) [] ∷ event (refresh 1) (done 2) []
    ∷ event retire (done 2) []
    ∷ event (commit 1 A) (refused 8) []
    ∷ event (send 1) (done 3) [] ∷ event (refresh 1) (done 3) []
    ∷ event (send 2) (done 3) [] ∷ event (refresh 2) (done 3) []
    -- the last: then there is none
    ∷ event retire (done 3) []
    ∷ event retire (refused 20) []
    ∷ event (write 3 (zeros 84)) (refused 21) (zeros 84)
    ∷ event load (done 3) []
    ∷ event (read 1 seven buffer) (answered 3 1) (holding A)
    ∷ event (commit 1 withdraw7) (done 4) []
    ∷ []
