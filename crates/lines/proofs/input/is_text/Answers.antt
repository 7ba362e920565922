use Rattle.std.proofs.Common.{◌≡◌, ◌∙◌, ap, not, length}
use lib.Dec.{eqb}
use Rattle.lines.specs.declared.text.Class.TheVariants.{Other}
use Rattle.lines.specs.Text.{run_end}
use Rattle.lines.specs.Input.{is_text}
use Rattle.lines.proofs.InputLaws.{starts_two, no_zero_run}
use Rattle.lines.proofs.input.is_text.Goals as goal
use Rattle.lines.proofs.input.is_text.Goals.{then-starts_with-via-then-starts_with, then-starts_with-via-else-starts_with+then-starts_with-2}

pub returns-then-starts_with : goal.returns-then-starts_with
unfolding is_text
returns-then-starts_with c =
    let s = c.args.s.now in
    rw (← starts_two 254 253 s, ← starts_two 253 254 s, ← c.starts_with.ensures.value)
    (elim c.then-starts_with.branch [
      | then-starts_with-via-then-starts_with w ↦ rw w.if-starts_with.true
      | then-starts_with-via-else-starts_with+then-starts_with-2 w ↦ rw (w.if-starts_with.false, ← w.starts_with-else-starts_with.ensures.value, w.if-starts_with-2.true)
    ])

pub returns : goal.returns
unfolding is_text
returns c =
    let s = c.args.s.now in
    let z : not c.contains.result ≡ eqb (run_end s 0 (Other 0)) (length s) = ap not c.contains.ensures.value ∙ no_zero_run s in
    rw (← starts_two 254 253 s, ← starts_two 253 254 s, ← c.starts_with.ensures.value, c.if-starts_with.false, ← c.starts_with-else-starts_with.ensures.value, c.if-starts_with-2.false) z
