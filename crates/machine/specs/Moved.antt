-- STATEMENT. Document 02, S-7, "A presenter who walks to the other studio", as the table's cases: each call with the answer and the output that it must
-- have, from the table's fresh system.
use Rattle.std.specs.Prelude.{List, [], ◌∷◌}
use Rattle.carts.specs.Bytes.{zeros}
use Rattle.replication.specs.Answer.{refused, done, waits, answered}
use Rattle.replication.specs.Call.{commit, send, refresh, read, collect, forward, move}
use Rattle.machine.specs.OneCopy.{Event, event}
use Rattle.machine.specs.Table.{A, withdraw7, seven, buffer, holding}

-- Sessions 1 and 2 are at studio 1, session 3 is at studio 2. Studio 1 has applied one edit and been sent two, studio 2 none.
unfoldable pub walk : List Event
walk =
    event (commit 3 A) (done 1) []
    ∷ event (commit 3 withdraw7) (done 2) []
    ∷ event (send 1) (done 1) [] ∷ event (refresh 1) (done 1) [] ∷ event (send 1) (done 2) []
    -- "raises the session's number to the state it showed": sessions 1 and 2, which have committed nothing, are shown edit 1 by a read and a forward
    ∷ event (read 1 seven buffer) (answered 1 1) (holding A)
    ∷ event (forward 2 seven buffer) (answered 1 1) (holding A)
    -- "moves a session to another studio, returns that studio". "So that nobody walks back in time": studio 2 is behind, so the read waits there for edit 1,
    -- and the forward is answered by the head end
    ∷ event (move 1 2) (done 2) []
    ∷ event (move 2 2) (done 2) []
    ∷ event (read 1 seven buffer) (waits 1) buffer
    ∷ event (forward 2 seven buffer) (answered 2 0) (holding (zeros 80))
    -- "refused by the old 3 and 4 on their conditions": session 1 has a read waiting; there is no studio 3
    ∷ event (move 1 1) (refused 4) []
    ∷ event (move 1 3) (refused 3) []
    -- ".. or by collect": studio 2 shows edit 2, where the read had waited for edit 1
    ∷ event (send 2) (done 1) [] ∷ event (refresh 2) (done 1) []
    ∷ event (send 2) (done 2) [] ∷ event (refresh 2) (done 2) []
    ∷ event (collect 1 buffer) (answered 2 0) (holding (zeros 80))
    -- to the studio where it is; and back to studio 1, which is at edit 1
    ∷ event (move 1 2) (done 2) []
    ∷ event (move 1 1) (done 1) []
    ∷ event (read 1 seven buffer) (waits 2) buffer
    -- sessions 4 and 17: not in use, and none; studio 0 is none
    ∷ event (move 4 1) (refused 3) []
    ∷ event (move 17 1) (refused 3) []
    ∷ event (move 2 0) (refused 3) []
    ∷ event (refresh 1) (done 2) []
    ∷ event (collect 1 buffer) (answered 2 0) (holding (zeros 80))
    ∷ []
