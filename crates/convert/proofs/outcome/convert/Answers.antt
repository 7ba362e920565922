use mathlib.Core.Path.{sym, ◌∙◌}
use Rattle.convert.proofs.OutcomeLaws.{converted_file, converted_copy}
use Rattle.convert.proofs.outcome.convert.Goals as goal

pub returns-then-is_marked : goal.returns-then-is_marked
returns-then-is_marked c =
    converted_file c.args.input.now c.args.copy.now c.from_old.new.copy c.args.file.now _ (sym c.is_marked.ensures ∙ c.if-is_marked.true) c.requires.0 c.from_old.ensures c.judge_file.ensures

pub returns : goal.returns
returns c =
    converted_copy c.args.input.now c.args.copy.now c.args.file.now c.to_old.new.file _ (sym c.is_marked.ensures ∙ c.if-is_marked.false) c.requires.1 c.to_old.ensures c.judge_copy.ensures
