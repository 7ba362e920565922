use Rattle.std.proofs.Common.{◌≡◌, ◌∙◌, ap, sym, refl, [], Some, None}
use Rattle.lines.specs.declared.parse.Call.TheVariants.{Nothing, Unreadable}
use Rattle.lines.specs.declared.cursor.Mistake.TheVariants.{UnknownWord}
use Rattle.lines.specs.Cursor.{next_word}
use Rattle.lines.specs.Parse.{line, command_of}
use Rattle.lines.proofs.ParseLaws.{call_alone, line_over, line_known, line_means}
use Rattle.lines.proofs.parse.parse.Goals as goal

pub returns-then-is_over : goal.returns-then-is_over
returns-then-is_over c =
    line_means c.args.s.now (line Nothing []) _ _ _ (call_alone Nothing Nothing c.args.payload.now refl tt) (line_over c.args.s.now c.new-c.result c.new-c.ensures (sym c.is_over.ensures ∙ c.if-is_over.true))

pub returns-in_default : goal.returns-in_default
returns-in_default c =
    let u = Unreadable UnknownWord 0 in
    let k : None ≡ command_of (next_word c.new-c.result) = sym c.in_default.is ∙ c.of.ensures ∙ ap command_of c.peek_word.ensures in
    line_means c.args.s.now (line u []) _ _ _ (call_alone u u c.args.payload.now refl tt) (line_known c.args.s.now c.new-c.result None c.new-c.ensures (sym c.is_over.ensures ∙ c.if-is_over.false) k)

pub returns : goal.returns
returns c =
    let k : Some c.in-Some.command ≡ command_of (next_word c.new-c.result) = sym c.in-Some.is ∙ c.of.ensures ∙ ap command_of c.peek_word.ensures in
    line_means c.args.s.now _ _ _ _ c.call_by.ensures (rw c.skip_word.ensures (line_known c.args.s.now c.new-c.result (Some c.in-Some.command) c.new-c.ensures (sym c.is_over.ensures ∙ c.if-is_over.false) k))
