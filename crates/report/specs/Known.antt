-- Sessions that row 3 passes.
use Rattle.std.specs.Prelude.{Bool, not, ℕ}
use Rattle.replication.specs.Memory.{studio_of}
use Rattle.replication.specs.Rows.{session_row}
use Rattle.replication.specs.declared.control.Control.{Control}

-- 01, of row 3, "session outside 1–16 or unused": the session is neither. A move names a session and a studio, and is "refused by the
-- old 3" for either (02, S-7): for the session where it is not known, else for the studio (proofs/KnownLaws.antt, `names_fault`)
unfoldable pub known_session : Control → ℕ → Bool
known_session c s = not (session_row s (studio_of c s)).stops
