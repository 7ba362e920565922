use Rattle.std.proofs.Common.{refl, append_assoc}
use borrow.Author.Tests.{ne_eqb}
use Rattle.words.specs.Answers.{behind_text}
use Rattle.words.proofs.answer.put_behind.Goals as goal

pub returns-else-edits-eq0-clause-text : goal.returns-else-edits-eq0-clause-text
unfolding behind_text
returns-else-edits-eq0-clause-text c = rw (c.put_between.ensures.text, ne_eqb c.args.edits 0 c.if-edits-eq0.false, append_assoc) refl
