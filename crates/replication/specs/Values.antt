-- What the code's parts give, by the definitions: a session's value; what a reading call goes by; what load compares on its walk.
use Rattle.std.specs.Prelude.{Bool, true, false, cond, ◌&&◌, List, ℕ, zero, suc, ◌+◌, ◌*◌, leb, eqb}
use Rattle.carts.specs.Bytes.{byte, every, pairwise}
use Rattle.carts.specs.Cart.{cart_size}
use Rattle.carts.specs.Operation.{meets_all, act_all}
use Rattle.edit_log.specs.Log.{next_transaction, transaction_at, up_from}
use Rattle.replication.specs.Memory.{Memory, copy_at, session_at, sequence_of, nth, studio_of}
use Rattle.replication.specs.Request.{Request}
use Rattle.replication.specs.Calls.{After, number_after, answer_from}
use Rattle.replication.specs.declared.session.Session.{Session}
use Rattle.replication.specs.declared.session.Waiting.{Waiting}
use Rattle.replication.specs.declared.session.Waiting.TheVariants.{Nothing, Numbers, Title}
use Rattle.replication.specs.declared.block.Due.{Due}
use Rattle.replication.specs.declared.source.Source.{Source}
use Rattle.replication.specs.declared.control.Control.{Control}

-- a session's waiting read, or a request, as the code's case: by byte 0, with byte 1
unfoldable pub waiting_value : List ℕ → Waiting
waiting_value x = cond (eqb (byte x 0) 1) (Numbers (byte x 1)) (cond (eqb (byte x 0) 2) (Title (byte x 1)) Nothing)

unfoldable pub session_value : List ℕ → Session
session_value x = record { number = sequence_of x; waiting = waiting_value x }

abbrev pub waits_by : Waiting → Bool
waits_by Nothing = false
waits_by (Numbers n) = true
waits_by (Title n) = true

abbrev pub needed_by : Waiting → ℕ
needed_by Nothing = 0
needed_by (Numbers n) = cart_size * n
needed_by (Title n) = cart_size

-- what an accepted read goes by: the session's number, its studio, and what that has applied
abbrev pub due_of : Control → List ℕ → ℕ → Due
due_of c sessions s = record { number = sequence_of (session_at sessions s); studio = studio_of c s; state = nth c.applied (studio_of c s) }

-- what it is answered from: a copy, with its state, and the session's next number. The studio's copy
abbrev pub studio_source : Due → Source
studio_source d = record { copy = d.studio; state = d.state; next = number_after d.number d.state }

-- S-4: "from the head end's copy with state commits, and the session's number becomes commits"
abbrev pub primary_source : Control → Source
primary_source c = record { copy = 0; state = c.commits; next = c.commits }

-- S-4: the studio's copy where it has reached the session's number, otherwise the head end's
unfoldable pub forward_source : Control → Due → Source
forward_source c d = cond (leb d.number d.state) (studio_source d) (primary_source c)

-- the answer from a source
abbrev pub answer_by : Source → Request → Control → Memory → ℕ → List ℕ → List ℕ → After
answer_by v q c m s x out = answer_from v.state (copy_at m.library v.copy) q c m s v.next x out

-- S-8: studio i has this copy, if what it has applied is n; each studio 1 to S
unfoldable pub is_level : List ℕ → List ℕ → ℕ → ℕ → ℕ → Bool
is_level library copy n applied i = let same = pairwise eqb (copy_at library i) copy in cond (eqb applied n) same true

unfoldable pub are_level : Control → List ℕ → List ℕ → ℕ → Bool
are_level c library copy n = every (λ i. is_level library copy n (nth c.applied i) i) (up_from 1 c.studios)

-- S-8: the rest of load's walk, `left` transactions from record r on, after n of them have made `copy`
unfoldable pub whole_from : Control → List ℕ → List ℕ → ℕ → ℕ → ℕ → List ℕ → Bool
whole_from c library log zero n r copy = pairwise eqb (copy_at library 0) copy
whole_from c library log (suc left) n r copy =
    let ops = transaction_at log r in
    let next = act_all copy ops in
    let rest = whole_from c library log left (n + 1) (next_transaction log r) next in
    meets_all copy ops && (are_level c library next (n + 1) && rest)
