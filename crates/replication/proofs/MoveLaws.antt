-- Laws of move: its rows after those on memory and on its session, and an accepted move.
use Prim.Native.Nat.{ℕ, ◌≤◌}
use mathlib.Core.Path.{◌≡◌, refl, sym, ◌∙◌}
use mathlib.Core.Bool.{true, false}
use mathlib.Core.List.{List, [], ◌∷◌, ◌++◌}
use Rattle.replication.specs.Answer.{refused, done}
use Rattle.replication.specs.Memory.{Memory, studio_of, session_at}
use Rattle.replication.specs.Request.{Request, request_of, is_waiting}
use Rattle.replication.specs.Rows.{Row, row, stopped, memory_rows, session_row, studio_row, move_rows, move_stop}
use Rattle.replication.specs.Calls.{after, move, with_studio}
use Rattle.replication.specs.declared.control.Control.{Control}
use Rattle.replication.proofs.RowLaws.{unless_stopped, unless_accepted, stops_first, decides, row_stops, row_passes, session_numbered, studio_numbered}
use Rattle.replication.proofs.DecideLaws.{accepted, by_rest}
use Rattle.replication.proofs.Accepted.{move_passed}

-- row 3 of the studio, and row 4; v is what the code has found of the first
module _ (studios i : ℕ) (waiting : Request) (v : ℕ) (e : v ≡ stopped (studio_row studios i ∷ [])) where
  abbrev Rest : List Row
  Rest = studio_row studios i ∷ row 4 (is_waiting waiting) ∷ []

  pub no_studio : (v ≡ 0 → ⊥) → v ≡ stopped Rest
  no_studio n = stops_first (studio_row studios i ∷ []) (row 4 (is_waiting waiting) ∷ []) v e n

  pub move_waiting : v ≡ 0 → is_waiting waiting ≡ true → 4 ≡ stopped Rest
  move_waiting z w = decides (studio_row studios i ∷ []) _ v 4 (studio_numbered studios i) e z (row_stops 4 _ [] w)

  pub may_move : v ≡ 0 → is_waiting waiting ≡ false → 0 ≡ stopped Rest
  unfolding stopped
  may_move z w = decides (studio_row studios i ∷ []) (row 4 (is_waiting waiting) ∷ []) v 0 (studio_numbered studios i) e z (sym (row_passes 4 _ [] w))

-- a row after row 3 of a move that rows 1 to 3, by its session, do not stop
pub move_rest : (c : Control) (m : Memory) (s : ℕ) → 0 ≡ stopped (memory_rows c m ++ (session_row s (studio_of c s) ∷ [])) → (i n : ℕ)
    → n ≡ stopped (studio_row c.studios i ∷ row 4 (is_waiting (request_of (session_at m.sessions s))) ∷ []) → n ≡ move_stop c m s i
unfolding move_stop move_rows
move_rest c m s e i n g = by_rest c m (session_row s (studio_of c s)) _ (session_numbered _ _) 0 e refl n g

-- the whole call
module _ (c : Control) (m : Memory) (s i v : ℕ) (e : v ≡ move_stop c m s i) where
  pub move_refused : (v ≡ 0 → ⊥) → after (refused v) c m [] ≡ move c m s i
  unfolding move
  move_refused n = rw e (unless_stopped _ _ _ (λ z. n (e ∙ z)))

  pub move_known : v ≡ 0 → (1 ≤ s) × (s ≤ 16)
  unfolding move_stop
  move_known z =
      let a = accepted c m _ (sym e ∙ z) in
      let k = (move_passed s (studio_of c s) (request_of (session_at m.sessions s)) c.studios i a.1).who in
      (k.low, k.high)

  pub move_accepted : v ≡ 0 → (next : Control) → next ≡ with_studio c s i → after (done i) next m [] ≡ move c m s i
  unfolding move
  move_accepted z next q = rw q (unless_accepted _ _ _ (sym e ∙ z))
