-- Laws of setup: its rows, and the whole call.
use Prim.Native.Nat.{ℕ}
use mathlib.Core.Path.{◌≡◌, sym, ap, ◌∙◌}
use mathlib.Core.Bool.{Bool, true, false}
use mathlib.Core.List.{List, [], ◌∷◌}
use lib.Dec.{eqb, leb}
use lib.ListN.{length, get_or}
use borrow.Author.Tests.{eq-eqb}
use Rattle.carts.specs.Bytes.{zeros, within, all, every}
use Rattle.carts.proofs.TestLaws.{all_fails}
use Rattle.replication.specs.Answer.{refused, done}
use Rattle.replication.specs.Memory.{Memory, memory, lengths_form}
use Rattle.edit_log.specs.Writes.{fresh_log}
use Rattle.replication.specs.Rows.{stopped, lengths_row, setup_rows, setup_stop}
use Rattle.replication.specs.Calls.{after, control_of, fresh_memory, setup}
use Rattle.replication.specs.declared.control.Control.{Control}
use Rattle.replication.proofs.RowLaws.{lengths_are, unless_stopped, unless_accepted}
use Rattle.replication.proofs.Accepted.{setup_passed}

-- the conditions of row 15
abbrev StudioTests : ℕ → List ℕ → List Bool
StudioTests studios bytes = within 1 4 studios ∷ eqb (length bytes) 16 ∷ every (λ b. leb b studios) bytes ∷ []

module _ (m : Memory) (studios : ℕ) (bytes : List ℕ) where
  pub setup_lengths : lengths_form m ≡ false → 1 ≡ setup_stop m studios bytes
  unfolding setup_stop stopped lengths_row
  setup_lengths e = rw e

  -- one of the conditions fails, counted from 0
  module _ (l : lengths_form m ≡ true) where
    pub setup_studios : (n : ℕ) → get_or (StudioTests studios bytes) n true ≡ false → 15 ≡ setup_stop m studios bytes
    unfolding setup_stop stopped lengths_row setup_rows
    setup_studios n e = rw (l, all_fails n (StudioTests studios bytes) e)

    pub setup_passes : within 1 4 studios ≡ true → length bytes ≡ 16 → every (λ b. leb b studios) bytes ≡ true → 0 ≡ setup_stop m studios bytes
    unfolding setup_stop stopped lengths_row setup_rows all
    setup_passes a b c = rw (l, a, eq-eqb (length bytes) 16 b, c)

  -- the whole call
  module _ (v : ℕ) (e : v ≡ setup_stop m studios bytes) where
    pub setup_refused : (v ≡ 0 → ⊥) → (next : Control) → next ≡ control_of 0 (zeros 16) 0 0 → after (refused v) next m [] ≡ setup m studios bytes
    unfolding setup
    setup_refused n next q = rw (q, e) (unless_stopped _ _ _ (λ z. n (e ∙ z)))

    pub setup_known : v ≡ 0 → (lengths_form m ≡ true) × (length bytes ≡ 16)
    setup_known z = let p = setup_passed m studios bytes (sym e ∙ z) in (p.lengths, p.count)

    pub setup_accepted : v ≡ 0 → (next : Control) (library log sessions : List ℕ) → next ≡ control_of studios bytes 1 512
        → library ≡ zeros (length m.library) → log ≡ fresh_log → sessions ≡ zeros (length m.sessions)
        → after (done 0) next (memory library log sessions) [] ≡ setup m studios bytes
    unfolding setup fresh_memory
    setup_accepted z next library log sessions q a b c =
        let l = lengths_are m (setup_known z).0 in
        let la : library ≡ zeros 61440 = a ∙ ap zeros l.0 in
        let lc : sessions ≡ zeros 1280 = c ∙ ap zeros l.1.1 in
        rw (q, la, b, lc) (unless_accepted _ _ _ (sym e ∙ z))
