-- The status with which a player ends.
use Rattle.std.specs.Prelude.{ℕ, Bool, cond, not, ◌&&◌, ◌==◌}
use Rattle.journal.specs.declared.progress.Tally.{Tally}

-- some line was a call
unfoldable pub made_calls : Tally → Bool
made_calls t = not ((t.accepted == 0 && t.waited == 0) && t.refused == 0)

-- every line was read, some line was a call, and every answer is the same on the single library
unfoldable pub all_well : Tally → Bool
all_well t = (t.same && t.unreadable == 0) && made_calls t

-- 0 where the input was read to its end as text and all is well; 1 where all is not well; 2 where the input was not read so
-- (3, that the output could not be written, is told where a write fails)
unfoldable pub status_of : Bool → Tally → ℕ
status_of isRead t = cond isRead (cond (all_well t) 0 1) 2
