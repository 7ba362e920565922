-- Laws of preview: commit's answer, whether a row stops it or none does, with control and memory as they were.
use Prim.Native.Nat.{ℕ, ◌+◌}
use mathlib.Core.Path.{◌≡◌, refl, sym, ap, ◌∙◌}
use mathlib.Core.List.{List, []}
use Rattle.replication.specs.Answer.{refused, done}
use Rattle.replication.specs.Memory.{Memory}
use Rattle.replication.specs.Rows.{commit_stop}
use Rattle.replication.specs.Calls.{After, after, commit, preview}
use Rattle.replication.specs.declared.control.Control.{Control}
use Rattle.replication.proofs.RowLaws.{unless_accepted}
use Rattle.replication.proofs.CommitLaws.{commit_refused}

module _ (c : Control) (m : Memory) (s : ℕ) (bytes : List ℕ) where
  -- what a preview leaves, by what the commit leaves
  previewed : After → After
  previewed r = after r.answer c m []

  module _ (v : ℕ) (e : v ≡ commit_stop c m s bytes) where
    pub preview_refused : (v ≡ 0 → ⊥) → after (refused v) c m [] ≡ preview c m s bytes
    unfolding preview previewed
    preview_refused n = ap previewed (commit_refused c m s bytes v e n _ refl)

    pub preview_accepted : v ≡ 0 → after (done (c.commits + 1)) c m [] ≡ preview c m s bytes
    unfolding preview commit previewed
    preview_accepted z = ap previewed (unless_accepted _ _ _ (sym e ∙ z))
