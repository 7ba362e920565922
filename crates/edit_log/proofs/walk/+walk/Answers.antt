use Rattle.edit_log.proofs.WalkLaws.{some, walk_none, walk_on, walk_here, walk_later}
use mathlib.Core.Path.{◌∙◌}
use native.Mathlib.Omega.{arith}
use Rattle.edit_log.proofs.walk.+walk.Goals as goal

pub returns-then-left-eq0 : goal.returns-then-left-eq0
returns-then-left-eq0 t c = walk_none _ _ _ c.if-left-eq0.true

pub at-links-requires : goal.at-links-requires
at-links-requires t c = (c.requires.0, walk_here _ _ _ c.if-left-eq0.false c.requires.1)

pub walk-requires : goal.walk-requires
walk-requires t c =
    let n = c.if-left-eq0.false in
    let h = some c.args.left n in
    (omega arith, (c.requires.0, walk_later _ _ _ n c.requires.1 c.at-links.result c.at-links.ensures.0))

pub returns : goal.returns
returns t c = c.walk.ensures ∙ walk_on _ _ _ c.if-left-eq0.false c.at-links.result c.at-links.ensures.0
