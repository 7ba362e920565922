use Rattle.std.proofs.Common.{◌≡◌, ◌≤◌}
use Rattle.journal.specs.History.{commit_kind, read_kind, refused_kind}
use Rattle.order_lines.specs.Order.{of_kind}
use Rattle.order_lines.proofs.entries.count_kinds.Given as goal

abbrev pub invariant-loop-e : goal.invariant-loop-e
invariant-loop-e l = record {
  edits : l.kinds.edits ≡ of_kind commit_kind l.entries l.e-index;
  refusals : l.kinds.refusals ≡ of_kind refused_kind l.entries l.e-index;
  reads : l.kinds.reads ≡ of_kind read_kind l.entries l.e-index;
  few : (l.kinds.edits ≤ l.e-index) × (l.kinds.refusals ≤ l.e-index) × (l.kinds.reads ≤ l.e-index);
}
