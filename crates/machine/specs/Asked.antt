-- The session and the request of a reading call.
use Rattle.std.specs.Prelude.{ℕ}
use Rattle.replication.specs.Request.{Request, nothing, request_of}
use Rattle.replication.specs.Call.{Call}
use Rattle.machine.specs.Machine.{Machine, session_of}
use Rattle.machine.specs.OneCopy.{Kind, writes, reads, collects, neither, kind_of}

-- what a call asks for: "Read (session, request)", and forward too; "Collect (session): .. the stored request"
unfoldable pub asked_by : Machine → Kind → Request
asked_by m (writes s bytes) = nothing
asked_by m (reads s bytes) = request_of bytes
asked_by m (collects s) = (session_of m s).waiting
asked_by m neither = nothing

abbrev pub asked : Machine → Call → Request
asked m x = asked_by m (kind_of x)

-- the session that a read, forward or collect names; 0 for any other call
unfoldable pub asker_by : Kind → ℕ
asker_by (writes s bytes) = 0
asker_by (reads s bytes) = s
asker_by (collects s) = s
asker_by neither = 0

abbrev pub asker : Call → ℕ
asker x = asker_by (kind_of x)
