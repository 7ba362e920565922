use Rattle.lines.specs.Input.{mark_length}
use Rattle.lines.proofs.InputLaws.{starts_three}
use Rattle.lines.proofs.input.mark_length.Goals as goal

pub returns-then-starts_with : goal.returns-then-starts_with
unfolding mark_length
returns-then-starts_with c = rw (← starts_three 238 186 190 c.args.s.now, ← c.starts_with.ensures.value, c.if-starts_with.true)

pub returns : goal.returns
unfolding mark_length
returns c = rw (← starts_three 238 186 190 c.args.s.now, ← c.starts_with.ensures.value, c.if-starts_with.false)
