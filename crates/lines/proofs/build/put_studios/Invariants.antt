use Rattle.std.proofs.Common.{◌≡◌, ◌-◌, ◌++◌, take, replicate}
use Rattle.lines.specs.Build.{low_bytes}
use Rattle.lines.proofs.build.put_studios.Given as goal

abbrev pub invariant-loop-i : goal.invariant-loop-i
invariant-loop-i l = l.places ≡ low_bytes (take l.i l.studios) ++ replicate (16 - l.i) 0
