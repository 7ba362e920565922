-- 02, S-6, the van's writer on the plain machine, by computation: its messages, its refusals, and that it leaves nothing behind.
use mathlib.Core.Path.{◌≡◌, refl}
use mathlib.Core.List.{List, [], ◌∷◌, ◌++◌}
use Rattle.carts.specs.Bytes.{zeros}
use Rattle.replication.specs.Answer.{refused, done, answered}
use Rattle.replication.specs.Call.{commit, read, write}
use Rattle.machine.specs.OneCopy.{Event, event}
use Rattle.machine.specs.Table.{A, withdraw7, seven, buffer, holding, calls_of}
use Rattle.machine.proofs.Entries.{plain_history}
use Rattle.machine.proofs.Table.{start, computed}

-- a number that is not committed; an output one byte too short; messages of one operation and of two, with later bytes left; the first once more
unfoldable pub writing : List Event
writing =
    event (write 1 (zeros 84)) (refused 17) (zeros 84)
    ∷ event (commit 1 A) (done 1) []
    ∷ event (write 1 (zeros 83)) (refused 17) (zeros 83)
    ∷ event (write 1 (zeros 84)) (done 84) (1 ∷ 0 ∷ 1 ∷ 0 ∷ A)
    ∷ event (write 0 (zeros 84)) (refused 17) (zeros 84)
    ∷ event (write 2 (zeros 84)) (refused 17) (zeros 84)
    ∷ event (commit 2 (withdraw7 ++ A)) (done 2) []
    ∷ event (write 2 (zeros 163)) (refused 17) (zeros 163)
    ∷ event (write 2 (zeros 164 ++ (7 ∷ 8 ∷ []))) (done 164) (2 ∷ 0 ∷ 2 ∷ 0 ∷ withdraw7 ++ A ++ (7 ∷ 8 ∷ []))
    ∷ event (write 1 (zeros 84)) (done 84) (1 ∷ 0 ∷ 1 ∷ 0 ∷ A)
    ∷ event (write 65538 (zeros 164)) (refused 17) (zeros 164)
    ∷ event (read 3 seven buffer) (answered 0 0) (holding (zeros 80))
    ∷ []

pub messages_written : plain_history start (calls_of writing) ≡ writing
unfolding computed writing
messages_written = refl
