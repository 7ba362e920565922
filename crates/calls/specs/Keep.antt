-- What is kept in the journal of what came of a line.
use Rattle.std.specs.Prelude.{List, ℕ, ◌*◌, Err}
use Rattle.edit_log.specs.Log.{record_size}
use Rattle.lines.specs.Text.{part_in}
use Rattle.journal.specs.Progress.{Kept, kept, stepped, after_setup, after_count, after_commit, after_read, after_receive}
use Rattle.journal.specs.declared.progress.Progress.{Progress}
use Rattle.journal.specs.declared.progress.Outcome.TheVariants as Outcome
use Rattle.report.specs.declared.turn.Came.{Came}
use Rattle.replication.specs.declared.control.Control.{Control}
use Rattle.journal.specs.declared.history.Entry.{Entry}

-- a call's answer, with the payload of a commit or the block of a read; a preview "has no entry in the one-copy order" (02,
-- S-1), also where it answers 8 (S-3), and a message, a move, a load and a retire have none; a line that cannot be read is
-- counted; any other line changes nothing
unfoldable pub came_kept : Progress → Came → Control → List ℕ → List ℕ → List Entry → List ℕ → Kept
came_kept p (Came.Setup a studios) c payload block entries store = kept entries store (after_setup p c a)
came_kept p (Came.Commit a s n) c payload block entries store = after_commit p c a s (part_in payload 0 (record_size * n)) entries store
came_kept p (Came.Preview a s n) c payload block entries store = kept entries store (after_count p c a)
came_kept p (Came.SendOrRefresh a i sends) c payload block entries store = kept entries store (after_count p c a)
came_kept p (Came.Read a s) c payload block entries store = after_read p c a s block entries store
came_kept p Came.Show c payload block entries store = kept entries store p
came_kept p (Came.Unreadable mistake at) c payload block entries store = kept entries store (stepped p p.control p.history Outcome.Unreadable)
came_kept p Came.Nothing c payload block entries store = kept entries store p
came_kept p (Came.Unwritten r edit) c payload block entries store = kept entries store (after_count p c (Err r))
came_kept p (Came.Received result edit) c payload block entries store = kept entries store (after_receive p c result.applied result.answer)
came_kept p (Came.Move a s i) c payload block entries store = kept entries store (after_count p c a)
came_kept p (Came.Load a) c payload block entries store = kept entries store (after_count p c a)
came_kept p (Came.Retire a used) c payload block entries store = kept entries store (after_count p c a)
