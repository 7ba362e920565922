-- The three memories of a system that a call only reads.
use Rattle.replication.specs.Memory.{Memory, memory}
use Rattle.replication.specs.declared.system.System.{System}

abbrev pub memory_of : System → Memory
memory_of s = memory s.library.now s.log.now s.sessions.now
