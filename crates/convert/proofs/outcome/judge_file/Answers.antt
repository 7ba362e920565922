use Rattle.std.proofs.Common.{length, arith}
use Rattle.std.proofs.lemmas.Slice.{between_to_end}
use borrow.Author.Tests.{eq-eqb, ne_eqb}
use Rattle.convert.specs.Outcome.{file_outcome}
use Rattle.convert.proofs.outcome.judge_file.Goals as goal

pub returns-then-file-ne-SIZE : goal.returns-then-file-ne-SIZE
unfolding file_outcome
returns-then-file-ne-SIZE c = rw (ne_eqb _ 6150 c.if-file-ne-SIZE.true)

pub returns-in-Some : goal.returns-in-Some
unfolding file_outcome
returns-in-Some c =
    let file = c.args.file.now in
    let f = rw (between_to_end file 6 (length file) (omega arith)) at c.in-Some.ensures in
    rw (eq-eqb _ 6150 c.if-file-ne-SIZE.false, ← f)

pub returns : goal.returns
unfolding file_outcome
returns c =
    let file = c.args.file.now in
    let f = rw (between_to_end file 6 (length file) (omega arith)) at c.in_default.ensures in
    let g = rw (between_to_end file 6 (length file) (omega arith)) at c.count_held.ensures in
    rw (eq-eqb _ 6150 c.if-file-ne-SIZE.false, ← f, g)
