use mathlib.Core.Path.{sym, ap, ◌∙◌}
use Prim.Native.Nat.{ℕ}
use borrow.Author.Tests.{le-leb, lt-leb}
use Rattle.edit_log.specs.Chains.{chains_form}
use Rattle.replication.specs.Layout.{sixth_form, layout_tests}
use Rattle.replication.proofs.LayoutLaws.{layout_fails, layout_last, retired_first}
use Rattle.replication.proofs.layout.is_layout.Goals as goal

pub returns-then-not-is_within : goal.returns-then-not-is_within
unfolding layout_tests
returns-then-not-is_within c = layout_fails _ _ 0 (sym c.is_within.ensures ∙ c.if-not-is_within.true)

pub returns-then-not-has_studios : goal.returns-then-not-has_studios
unfolding layout_tests
returns-then-not-has_studios c = layout_fails _ _ 1 (sym c.has_studios.ensures ∙ c.if-not-has_studios.true)

pub returns-then-control-gt-COMMITS_MOST : goal.returns-then-control-gt-COMMITS_MOST
unfolding layout_tests
returns-then-control-gt-COMMITS_MOST c = layout_fails _ _ 2 (lt-leb _ _ c.if-control-gt-COMMITS_MOST.true)

pub returns-then-not-are_counts : goal.returns-then-not-are_counts
unfolding layout_tests
returns-then-not-are_counts c = layout_fails _ _ 3 (sym c.are_counts.ensures ∙ c.if-not-are_counts.true)

pub returns-then-not-are_replicas : goal.returns-then-not-are_replicas
unfolding layout_tests
returns-then-not-are_replicas c = layout_fails _ _ 4 (sym c.are_replicas.ensures ∙ c.if-not-are_replicas.true)

pub returns-then-not-is_sixth : goal.returns-then-not-is_sixth
unfolding layout_tests
returns-then-not-is_sixth c = let g = c.args.system.now in
    let e = c.is_sixth.ensures ∙ ap (sixth_form g.control.retired) c.copy_at.ensures.0 in
    layout_fails _ _ 5 (sym e ∙ c.if-not-is_sixth.true)

pub log_count-requires : goal.log_count-requires
log_count-requires c =
    retired_first _ (sym c.is_within.ensures ∙ c.if-not-is_within.false)
    (sym c.are_counts.ensures ∙ c.if-not-are_counts.false)

pub returns-then-not-are_chains : goal.returns-then-not-are_chains
unfolding layout_tests
returns-then-not-are_chains c = let g = c.args.system.now in
    let k = g.control in
    let e = c.are_chains.ensures ∙ ap (λ (n : ℕ). chains_form n g.log.now k.used k.oldest k.free_first k.free_last) c.log_count.ensures in
    layout_fails _ _ 6 (sym e ∙ c.if-not-are_chains.true)

pub returns : goal.returns
returns c = let g = c.args.system.now in
    let k = g.control in
    let sixth = c.is_sixth.ensures ∙ ap (sixth_form k.retired) c.copy_at.ensures.0 in
    let chains = c.are_chains.ensures ∙ ap (λ (n : ℕ). chains_form n g.log.now k.used k.oldest k.free_first k.free_last) c.log_count.ensures in
    layout_last _ _ c.are_sessions.result c.are_sessions.ensures
    (sym c.is_within.ensures ∙ c.if-not-is_within.false)
    (sym c.has_studios.ensures ∙ c.if-not-has_studios.false)
    (le-leb _ _ c.if-control-gt-COMMITS_MOST.false)
    (sym c.are_counts.ensures ∙ c.if-not-are_counts.false)
    (sym c.are_replicas.ensures ∙ c.if-not-are_replicas.false)
    (sym sixth ∙ c.if-not-is_sixth.false)
    (sym chains ∙ c.if-not-are_chains.false)
