-- A line is told as one that cannot be read only where its call is that, and by the call's own mistake.
use mathlib.Core.Path.{◌≡◌, refl, sym, ap, ◌∙◌}
use mathlib.Core.Bool.{Bool, true, false, false≢true}
use mathlib.Core.List.{List}
use Prim.Native.Nat.{ℕ}
use Rattle.lines.specs.declared.cursor.Mistake.{Mistake}
use Rattle.lines.specs.declared.parse.Call.{Call}
use Rattle.replication.specs.Answer.{Answer, refused, done, waits, answered}
use Rattle.replication.specs.declared.control.Control.{Control}
use Rattle.replication.specs.Memory.{Memory}
use Rattle.van.specs.Receive.{Van}
use Rattle.calls.specs.Make.{Told, set_up, committed, previewed, sent_or_refreshed, looked, shown, unread, nothing, unwritten, received, moved, loaded, retired, line_leaves, setup_leaves, read_leaves, collect_leaves, ask_leaves, van_leaves, delivered}

-- whether a line is told as one that cannot be read
abbrev is_unread : Told → Bool
is_unread (set_up a studios) = false
is_unread (committed a s n) = false
is_unread (previewed a s n) = false
is_unread (sent_or_refreshed a i sends) = false
is_unread (looked a s) = false
is_unread shown = false
is_unread (unread mistake at) = true
is_unread nothing = false
is_unread (unwritten a edit) = false
is_unread (received a applied edit) = false
is_unread (moved a s i) = false
is_unread (loaded a) = false
is_unread (retired a used) = false

-- what came of a message to the van is never told so
no_message : (v : Van) (edit : ℕ) (output : List ℕ) (a : Answer) → is_unread (delivered v edit output a).told ≡ false
unfolding delivered
no_message v edit output (done size) = refl
no_message v edit output (refused row) = refl
no_message v edit output (waits n) = refl
no_message v edit output (answered state found) = refl

pub unread_message : (c : Control) (m : Memory) (v : Van) (edit : ℕ) (block : List ℕ) (mistake : Mistake) (at : ℕ) →
    (van_leaves c m v edit block).made.told ≡ unread mistake at → ⊥
unfolding van_leaves
unread_message c m v edit block mistake at e = false≢true (sym (no_message v edit _ _) ∙ ap is_unread e)

-- and what came of a call only where it is that of a line that cannot be read, by its own mistake
pub unread_call : (c : Control) (m : Memory) (v : Van) (store : List ℕ) (call : Call) (payload block : List ℕ) (mistake : Mistake) (at : ℕ) →
    (line_leaves c m v store call payload block).made.told ≡ unread mistake at → call ≡ Call.Unreadable mistake at
unfolding line_leaves setup_leaves read_leaves collect_leaves ask_leaves
unread_call c m v store (Call.Unreadable mistake' at') payload block mistake at e = cc
unread_call c m v store (Call.Setup studios) payload block mistake at e = absurd (false≢true (ap is_unread e))
unread_call c m v store (Call.Commit s n) payload block mistake at e = absurd (false≢true (ap is_unread e))
unread_call c m v store (Call.Preview s n) payload block mistake at e = absurd (false≢true (ap is_unread e))
unread_call c m v store (Call.Send i) payload block mistake at e = absurd (false≢true (ap is_unread e))
unread_call c m v store (Call.Refresh i) payload block mistake at e = absurd (false≢true (ap is_unread e))
unread_call c m v store (Call.Read s forwards) payload block mistake at e = absurd (false≢true (ap is_unread e))
unread_call c m v store (Call.Collect s) payload block mistake at e = absurd (false≢true (ap is_unread e))
unread_call c m v store Call.Show payload block mistake at e = absurd (false≢true (ap is_unread e))
unread_call c m v store Call.Nothing payload block mistake at e = absurd (false≢true (ap is_unread e))
unread_call c m v store (Call.Van edit) payload block mistake at e = absurd (unread_message c m v edit block mistake at e)
unread_call c m v store (Call.Move s i) payload block mistake at e = absurd (false≢true (ap is_unread e))
unread_call c m v store Call.Load payload block mistake at e = absurd (false≢true (ap is_unread e))
unread_call c m v store Call.Retire payload block mistake at e = absurd (false≢true (ap is_unread e))
