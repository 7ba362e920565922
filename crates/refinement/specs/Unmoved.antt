-- STATEMENT. Document 02, S-7: "In a list without moves every answer is the same as it was."
use Rattle.std.specs.Prelude.{◌≡◌, Bool, true, false, not, List, map, ℕ, ◌≤◌}
use Rattle.carts.specs.Bytes.{every}
use Rattle.replication.specs.Memory.{session_count, session_at, with_sequence}
use Rattle.replication.specs.Call.{Call, commit, preview, send, refresh, read, collect, forward, write, move, load, retire, final}
use Rattle.replication.specs.Calls.{After, Rule, number_after, number_kept, run_by}
use Rattle.machine.specs.OneCopy.{Event, event_of}
use Rattle.refinement.specs.Represents.{OfLayout}

-- "a list without moves"
unfoldable pub is_move : Call → Bool
is_move (commit s bytes) = false
is_move (preview s bytes) = false
is_move (send i) = false
is_move (refresh i) = false
is_move (read s request out) = false
is_move (collect s out) = false
is_move (forward s request out) = false
is_move (write n out) = false
is_move (move s i) = true
is_move load = false
is_move retire = false

unfoldable pub without_moves : List Call → Bool
without_moves H = every (λ x. not (is_move x)) H

-- the answers and outputs of a list by a rule, and what the list leaves
unfoldable pub history_by : Rule → After → List Call → List Event
history_by rule r H = map event_of (run_by rule r H)

unfoldable pub left_by : Rule → After → List Call → After
left_by rule r H = final r (run_by rule r H)

-- the same but for bytes 2–3 of sessions, their numbers
pub record SameButNumbers (r t : After) : Type 0 where
  pub control : t.control ≡ r.control
  pub library : t.memory.library ≡ r.memory.library
  pub log : t.memory.log ≡ r.memory.log
  pub sessions : (s : ℕ) → 1 ≤ s → s ≤ session_count → with_sequence 0 (session_at t.memory.sessions s) ≡ with_sequence 0 (session_at r.memory.sessions s)

-- ".. every answer is the same as it was": by the rule that the calls have, and by the one before, and every output; from any control and memory of the
-- layout, for every list of all the calls there are but moves
abbrev pub SameWithoutMoves : Type 0
SameWithoutMoves = (r : After) → OfLayout r.control r.memory → (H : List Call) → without_moves H ≡ true
    → (history_by number_after r H ≡ history_by number_kept r H) × SameButNumbers (left_by number_kept r H) (left_by number_after r H)
