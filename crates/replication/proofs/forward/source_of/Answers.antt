use mathlib.Core.Path.{refl}
use native.Mathlib.Omega.{arith}
use Rattle.replication.proofs.BlockLaws.{source_copy, primary_chosen, studio_chosen}
use Rattle.replication.proofs.forward.source_of.Goals as goal

pub returns-then-due : goal.returns-then-due
returns-then-due c = (primary_chosen c.args.control c.args.due c.if-due.true _ _ refl refl, (omega arith, c.requires.numbers.1.1))

pub returns : goal.returns
returns c =
    let e = c.source.ensures in
    (studio_chosen c.args.control c.args.due c.if-due.false _ e.0, (source_copy _ _ e.0 c.requires.studio, e.1))
