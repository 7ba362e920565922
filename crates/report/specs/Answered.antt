-- The line that tells an answered read, collect or forward, with who answered it.
use Rattle.std.specs.Prelude.{cond, List, ℕ, ◌-◌, eqb}
use Rattle.carts.specs.Bytes.{within}
use Rattle.replication.specs.Memory.{session_count, studio_count, studio_of, nth}
use Rattle.replication.specs.declared.control.Control.{Control}
use Rattle.words.specs.Answers.{answered_text, head_end_text}

-- what the studio of a session has applied; 0 where there is no such session or studio, and so no answer
unfoldable pub applied_for : Control → ℕ → ℕ
applied_for c s =
    let applied = cond (within 1 studio_count (studio_of c s)) (nth c.applied (studio_of c s)) 0 in
    cond (within 1 session_count s) applied 0

-- an answer at a state, by the control of that call: the studio's where it has applied so many; of a forward "Otherwise it answers from
-- the head end's copy with state commits" (02, S-4), and the studio has then applied fewer
unfoldable pub answer_text : Control → ℕ → ℕ → ℕ → List ℕ
answer_text c s state found =
    cond (eqb state (applied_for c s)) (answered_text state (c.commits - state) found) (head_end_text state found)
