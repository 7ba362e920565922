use mathlib.Core.Path.{ap}
use mathlib.Core.Bool.{Bool, ◌&&◌}
use native.Mathlib.Omega.{arith}
use Rattle.replication.proofs.LevelLaws.{level_at, level_at_of, level_studios}
use Rattle.replication.proofs.StudioLaws.{studios_more, studios_end, studios_last}
use Rattle.replication.proofs.load.are_level.Goals as goal

pub loop-i-init : goal.loop-i-init
loop-i-init c = level_studios _ _ _ _

pub loop-i-preserved : goal.loop-i-preserved
loop-i-preserved c = let g = c.args in
    let k = g.system.control in
    let here = level_at_of k g.system.library.now g.copy.now g.n c.loop-i.i _ _ c.is_level-ok.ensures c.applied_by.ensures in
    studios_more (level_at k g.system.library.now g.copy.now g.n) k.studios c.loop-i.i c.loop-i.ok c.loop-i.invariant (omega arith) (omega arith)
    (ap (λ (b : Bool). c.loop-i.ok && b) here)

pub returns : goal.returns
returns c = let g = c.args in
    let k = g.system.control in
    studios_end (level_at k g.system.library.now g.copy.now g.n) k.studios c.loop-i.i c.loop-i.ok c.loop-i.invariant (omega arith) (omega arith)

pub returns-2 : goal.returns-2
returns-2 c = let g = c.args in
    let k = g.system.control in
    let here = level_at_of k g.system.library.now g.copy.now g.n _ _ _ c.is_level-ok.ensures c.applied_by.ensures in
    studios_last (level_at k g.system.library.now g.copy.now g.n) k.studios c.loop-i.i c.loop-i.ok c.loop-i.invariant (omega arith) (omega arith)
    (ap (λ (b : Bool). c.loop-i.ok && b) here)
