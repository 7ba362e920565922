-- STATEMENT. Document 02, S-4, "Ten seconds before the hour nobody can wait", as the table's cases: each call with the answer and the output that it must
-- have, from the table's fresh system.
use Rattle.std.specs.Prelude.{List, [], ◌∷◌, ℕ}
use Rattle.carts.specs.Bytes.{zeros}
use Rattle.replication.specs.Answer.{refused, done, waits, answered}
use Rattle.replication.specs.Call.{commit, send, refresh, read, collect, forward}
use Rattle.machine.specs.OneCopy.{Event, event}
use Rattle.machine.specs.Table.{top_hour_a, new, A, withdraw7, cart_read, seven, title_read, buffer, holding}

-- a request for cart 8, and the operation that fills it
unfoldable pub eight : List ℕ
eight = cart_read 8

unfoldable pub new8 : List ℕ
new8 = new 8 top_hour_a

-- Sessions 1 and 2 are at studio 1, session 3 is at studio 2.
unfoldable pub hour : List Event
hour =
    -- studio 1 has applied nothing: session 1 is answered by the head end, session 2, which has committed nothing, by the studio
    event (commit 1 A) (done 1) []
    ∷ event (forward 1 seven buffer) (answered 1 1) (holding A)
    ∷ event (forward 2 seven buffer) (answered 0 0) (holding (zeros 80))
    -- studio 1 has reached session 1's number: "exactly as read does", though the head end is further; the number stays 1
    ∷ event (commit 3 withdraw7) (done 2) []
    ∷ event (send 1) (done 1) []
    ∷ event (refresh 1) (done 1) []
    ∷ event (forward 1 seven buffer) (answered 1 1) (holding A)
    ∷ event (read 1 seven buffer) (answered 1 1) (holding A)
    -- "state commits, and the session's number becomes commits": 4, where session 2's own commit is 3. A read then waits for 4, and forward is stopped by 4.
    ∷ event (commit 2 new8) (done 3) []
    ∷ event (commit 3 A) (done 4) []
    ∷ event (forward 2 (title_read top_hour_a) buffer) (answered 4 2) (holding (zeros 80))
    ∷ event (read 2 eight buffer) (waits 4) buffer
    ∷ event (forward 2 eight buffer) (refused 4) buffer
    ∷ event (send 1) (done 2) [] ∷ event (refresh 1) (done 2) []
    ∷ event (send 1) (done 3) [] ∷ event (refresh 1) (done 3) []
    ∷ event (collect 2 buffer) (waits 4) buffer
    ∷ event (send 1) (done 4) [] ∷ event (refresh 1) (done 4) []
    ∷ event (collect 2 buffer) (answered 4 1) (holding new8)
    ∷ event (forward 2 eight buffer) (answered 4 1) (holding new8)
    ∷ []
