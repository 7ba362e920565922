-- STATEMENT. Document 02, S-8, "Check the wall when it is loaded", as the table's cases: each call with the answer and the output that it must have. The first list from the
-- table's fresh system; the second from what it left, saved and loaded.
use Rattle.std.specs.Prelude.{List, [], ◌∷◌}
use Rattle.carts.specs.Bytes.{zeros}
use Rattle.replication.specs.Answer.{refused, done, waits, answered}
use Rattle.replication.specs.Call.{commit, send, refresh, read, collect, load}
use Rattle.machine.specs.OneCopy.{Event, event}
use Rattle.machine.specs.Table.{A, withdraw7, seven, buffer, holding}

-- Sessions 1 and 2 are at studio 1, session 3 is at studio 2. No studio has applied anything when the power fails, and session 1's read waits.
unfoldable pub morning : List Event
morning =
    event load (done 0) []
    ∷ event (commit 1 A) (done 1) []
    ∷ event (read 1 seven buffer) (waits 1) buffer
    ∷ event (commit 3 withdraw7) (done 2) []
    ∷ event load (done 2) []
    ∷ []

unfoldable pub afternoon : List Event
afternoon =
    -- "reads may stand between them": session 2 is shown the library before the first of the loaded transactions
    event (read 2 seven buffer) (answered 0 0) (holding (zeros 80))
    ∷ event (send 1) (done 1) [] ∷ event (refresh 1) (done 1) []
    -- "a collect with no waiting read of its session before it in the list takes the request loaded for that session", and is answered between the two
    ∷ event (collect 1 buffer) (answered 1 1) (holding A)
    ∷ event (collect 1 buffer) (refused 14) buffer
    -- a refusal by 8 with the loaded commits; the next commit has the number after them; sessions have kept their numbers
    ∷ event (commit 2 withdraw7) (refused 8) []
    ∷ event (read 3 seven buffer) (waits 2) buffer
    ∷ event (commit 1 A) (done 3) []
    ∷ event load (done 3) []
    ∷ []
