-- Laws of what a refused move names.
use Prim.Native.Nat.{ℕ}
use mathlib.Core.Path.{◌≡◌, refl, sym, ◌∙◌}
use mathlib.Core.Bool.{Bool, true, false, not}
use mathlib.Core.List.{[], ◌∷◌}
use native.Mathlib.Omega.{arith}
use borrow.Author.Tests.{not-true}
use Rattle.carts.specs.Bytes.{within, every}
use Rattle.replication.specs.Memory.{Memory, studio_of}
use Rattle.replication.specs.Request.{is_waiting, waiting_in}
use Rattle.replication.specs.Rows.{row, stopped, lengths_row, memory_rows, session_row, studio_row, move_rows, move_stop}
use Rattle.replication.specs.declared.control.Control.{Control}
use Rattle.replication.proofs.RowLaws.{lacks, later_stops, row_passes}
use Rattle.report.specs.Known.{known_session}

-- rows 3 and 4 after the session's: 3 stops the move, so there is no such studio
studio_stops : (b w : Bool) → stopped (row 3 (not b) ∷ row 4 w ∷ []) ≡ 3 → b ≡ false
unfolding stopped
studio_stops true true e = absurd (omega arith)
studio_stops true false e = absurd (omega arith)
studio_stops false w e = refl

-- a move that is refused by 3, of a session that is known, is to a studio that there is not
pub names_fault : (c : Control) (m : Memory) (s i : ℕ) → move_stop c m s i ≡ 3 → known_session c s ≡ true → within 1 c.studios i ≡ false
unfolding move_stop move_rows session_row studio_row known_session lacks every memory_rows lengths_row
names_fault c m s i e k =
    let later = (later_stops (memory_rows c m) (move_rows s (studio_of c s) (waiting_in m s) c.studios i) 3 refl e).1 in
    let own = (session_row s (studio_of c s)).stops in
    studio_stops (within 1 c.studios i) (is_waiting (waiting_in m s)) (sym (row_passes 3 own _ (not-true own k)) ∙ later)
