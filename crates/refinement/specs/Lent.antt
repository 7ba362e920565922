-- The output that a call is lent.
use Rattle.std.specs.Prelude.{List, [], ℕ}
use Rattle.replication.specs.Call.{Call, commit, preview, send, refresh, read, collect, forward, write, move, load, retire}

-- "Output, lent to read and collect only", by S-4, "with read's .. outputs", to forward, by S-6 to the van's writer: [] where none is lent
unfoldable pub lent : Call → List ℕ
lent (commit s bytes) = []
lent (preview s bytes) = []
lent (send i) = []
lent (refresh i) = []
lent (read s request out) = out
lent (collect s out) = out
lent (forward s request out) = out
lent (write n out) = out
lent (move s i) = []
lent load = []
lent retire = []
