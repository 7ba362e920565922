-- STATEMENT. Document 02, S-3, "Told that the cart is taken, then shown it empty": its story, as the table's cases: each call with the answer and the
-- output that it must have, from the table's fresh system.
use Rattle.std.specs.Prelude.{List, [], ◌∷◌, ℕ, set}
use Rattle.carts.specs.Bytes.{zeros}
use Rattle.replication.specs.Answer.{refused, done, waits, answered}
use Rattle.replication.specs.Call.{commit, preview, send, refresh, read, collect}
use Rattle.machine.specs.OneCopy.{Event, event}
use Rattle.machine.specs.Table.{top_hour_a, new, A, cart_read, buffer, holding}

-- a request for cart 40, and the operation that fills it
unfoldable pub forty : List ℕ
forty = cart_read 40

unfoldable pub new40 : List ℕ
new40 = new 40 top_hour_a

-- "A presenter got refusal 8 for cart 40, which another studio had filled": from then on the reads of that session wait until its studio has the cart. A
-- preview that answers 8 tells nothing, nor does a commit that an earlier row stops (6, a title of length 65), though row 8 would stop it as well.
unfoldable pub taking : List Event
taking =
    event (commit 3 new40) (done 1) []
    ∷ event (preview 1 new40) (refused 8) []
    ∷ event (read 1 forty buffer) (answered 0 0) (holding (zeros 80))
    ∷ event (commit 1 new40) (refused 8) []
    ∷ event (read 1 forty buffer) (waits 1) buffer
    ∷ event (commit 2 (set new40 1 65)) (refused 6) []
    ∷ event (read 2 forty buffer) (answered 0 0) (holding (zeros 80))
    ∷ event (commit 3 A) (done 2) []
    ∷ event (send 1) (done 1) []
    ∷ event (collect 1 buffer) (waits 1) buffer
    ∷ event (refresh 1) (done 1) []
    ∷ event (collect 1 buffer) (answered 1 1) (holding new40)
    ∷ []
