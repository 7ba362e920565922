use Rattle.std.proofs.Common.{sym, ◌∙◌, None, Some}
use Rattle.lines.proofs.ParseLaws.{whole_by_parts}
use Rattle.lines.proofs.parse.whole.Goals as goal

pub returns-in-None : goal.returns-in-None
returns-in-None c = (whole_by_parts c.args.c.now c.end.new.self c.args.call None c.end.ensures (sym c.in-None.is ∙ c.mistake.ensures), c.requires)

pub returns-in-Some : goal.returns-in-Some
returns-in-Some c = (rw c.next_place.ensures (whole_by_parts c.args.c.now c.end.new.self c.args.call (Some c.in-Some.mistake) c.end.ensures (sym c.in-Some.is ∙ c.mistake.ensures)), tt)
