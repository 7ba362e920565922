use mathlib.Core.Path.{sym, ◌∙◌}
use native.Mathlib.Omega.{arith}
use Rattle.carts.proofs.OperationLaws.{forms_fields}
use Rattle.replication.proofs.CommitLaws.{size_few, size_wrong, form_wrong, title_spaced, log_full, carts_wrong, may_commit}
use Rattle.replication.proofs.commit.stopped_by_operations.Goals as goal

pub returns-then-not-is_size : goal.returns-then-not-is_size
returns-then-not-is_size c = size_wrong _ _ _ _ (sym c.is_size.ensures ∙ c.if-not-is_size.true)

pub returns-then-not-all_operations : goal.returns-then-not-all_operations
returns-then-not-all_operations c =
    form_wrong _ _ _ _ (sym c.is_size.ensures ∙ c.if-not-is_size.false) (sym c.all_operations.ensures ∙ c.if-not-all_operations.true)

pub any_spaced-requires : goal.any_spaced-requires
any_spaced-requires c = forms_fields _ (sym c.all_operations.ensures ∙ c.if-not-all_operations.false)

pub returns-then-any_spaced : goal.returns-then-any_spaced
returns-then-any_spaced c =
    title_spaced _ _ _ _ (sym c.is_size.ensures ∙ c.if-not-is_size.false) (sym c.all_operations.ensures ∙ c.if-not-all_operations.false) (sym c.any_spaced.ensures ∙ c.if-any_spaced.true)

pub overflow_cast-n : goal.overflow_cast-n
overflow_cast-n c = let k = (size_few _ (sym c.is_size.ensures ∙ c.if-not-is_size.false)).1 in omega arith

pub overflow_add-used : goal.overflow_add-used
overflow_add-used c = let k = (size_few _ (sym c.is_size.ensures ∙ c.if-not-is_size.false)).1 in omega arith

pub returns-then-used-n : goal.returns-then-used-n
returns-then-used-n c =
    log_full _ _ _ _ (sym c.is_size.ensures ∙ c.if-not-is_size.false) (sym c.all_operations.ensures ∙ c.if-not-all_operations.false) (sym c.any_spaced.ensures ∙ c.if-any_spaced.false)
    c.if-used-n.true

pub meets_all-requires : goal.meets_all-requires
meets_all-requires c = (c.requires.1, forms_fields _ (sym c.all_operations.ensures ∙ c.if-not-all_operations.false))

pub returns-then-not-meets_all : goal.returns-then-not-meets_all
returns-then-not-meets_all c =
    carts_wrong _ _ _ _ (sym c.is_size.ensures ∙ c.if-not-is_size.false) (sym c.all_operations.ensures ∙ c.if-not-all_operations.false) (sym c.any_spaced.ensures ∙ c.if-any_spaced.false)
    c.if-used-n.false (sym c.meets_all.ensures ∙ c.if-not-meets_all.true)

pub returns : goal.returns
returns c =
    may_commit _ _ _ _ (sym c.is_size.ensures ∙ c.if-not-is_size.false) (sym c.all_operations.ensures ∙ c.if-not-all_operations.false) (sym c.any_spaced.ensures ∙ c.if-any_spaced.false)
    c.if-used-n.false (sym c.meets_all.ensures ∙ c.if-not-meets_all.false)
