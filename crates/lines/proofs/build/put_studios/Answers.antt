use Rattle.std.proofs.Common.{arith}
use Rattle.carts.specs.Bytes.{zeros}
use Rattle.lines.specs.Build.{low_bytes}
use Rattle.lines.proofs.BuildLaws.{low_more, low_end}
use Rattle.lines.proofs.build.put_studios.Goals as goal

pub loop-i-init : goal.loop-i-init
unfolding zeros low_bytes
loop-i-init c = rw (c.clear.ensures, c.requires.0)

pub loop-i-preserved : goal.loop-i-preserved
loop-i-preserved c = let i = c.loop-i in rw i.invariant (low_more c.args.studios.now i.i (omega arith) (omega arith))

pub returns : goal.returns
returns c = let i = c.loop-i in rw i.invariant (low_end c.args.studios.now i.i (omega arith))
