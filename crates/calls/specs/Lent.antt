-- The memories lent for a line: what a turn leaves in them, and that they are the same memories.
use Rattle.std.specs.Prelude.{◌≡◌}
use Rattle.replication.specs.Answer.{Answer}
use Rattle.replication.specs.Calls.{After}
use Rattle.replication.specs.Memory.{Memory, memory}
use Rattle.report.specs.declared.turn.Turn.{Turn}
use Rattle.calls.specs.Make.{Told, told, made, leaves, Left, beside}
use Rattle.calls.specs.declared.lent.Lent.{Lent}

-- the system's three memories
abbrev pub memory_in : Lent → Memory
memory_in l = memory l.library.now l.log.now l.sessions.now

-- what a turn leaves
abbrev pub left_in : Lent → Turn → Left
left_in l t = beside l.copy.now (made (told t.came) t.control (memory_in l) l.block.now)

-- what a call leaves that touches neither the van's copy nor the block
abbrev pub alone : Lent → (Answer → Told) → After → Left
alone l tells a = beside l.copy.now (leaves tells a l.block.now)

-- each memory is where it was, and what is lent to be read is the same
pub record SameLent (x y : Lent) : Type 0 where
  pub library : y.library.ghost_name ≡ x.library.ghost_name
  pub log : y.log.ghost_name ≡ x.log.ghost_name
  pub sessions : y.sessions.ghost_name ≡ x.sessions.ghost_name
  pub copy : y.copy.ghost_name ≡ x.copy.ghost_name
  pub block : y.block.ghost_name ≡ x.block.ghost_name
  pub store : y.store ≡ x.store
  pub payload : y.payload ≡ x.payload
