-- Laws of who answered.
use mathlib.Core.Path.{◌≡◌, refl}
use mathlib.Core.Bool.{true, cond}
use mathlib.Core.List.{List}
use Prim.Native.Nat.{ℕ, ◌-◌, ◌≤◌}
use lib.Dec.{eqb, leb}
use borrow.Author.Tests.{leb-false, eq-eqb, ne_eqb}
use native.Mathlib.Omega.{arith}
use Rattle.carts.specs.Bytes.{within}
use Rattle.carts.proofs.TestLaws.{by_cond, within_low}
use Rattle.replication.specs.Memory.{session_count, studio_count, studio_of, nth, session_at, sequence_of}
use Rattle.replication.specs.Values.{due_of, forward_source}
use Rattle.replication.specs.declared.control.Control.{Control}
use Rattle.replication.specs.declared.source.Source.{Source}
use Rattle.words.specs.Answers.{answered_text, head_end_text}
use Rattle.report.specs.Answered.{applied_for, answer_text}

-- what is told of an answer from a source: the head end's copy is copy 0
abbrev told_of : Control → ℕ → Source → List ℕ
told_of c found v = cond (eqb v.copy 0) (head_end_text v.state found) (answered_text v.state (c.commits - v.state) found)

-- the head end is named exactly where its copy is what a forward is answered from; a session's number is at most commits by the layout
pub names_source : (c : Control) (sessions : List ℕ) (s found : ℕ) →
    within 1 session_count s ≡ true → within 1 studio_count (studio_of c s) ≡ true → sequence_of (session_at sessions s) ≤ c.commits →
    let v = forward_source c (due_of c sessions s) in answer_text c s v.state found ≡ told_of c found v
unfolding forward_source answer_text applied_for
names_source c sessions s found w x h =
    let i = studio_of c s in
    let n = sequence_of (session_at sessions s) in
    let applied = nth c.applied i in
    by_cond (λ (v : Source). answer_text c s v.state found ≡ told_of c found v) (leb n applied) _ _
    (λ t. let l = within_low 1 studio_count i x in rw (w, x, eq-eqb applied applied refl, ne_eqb i 0 (λ e. omega arith)))
    (λ t. let l = leb-false n applied t in rw (w, x, ne_eqb c.commits applied (λ e. omega arith)))
