use Rattle.std.proofs.Common.{◌≡◌, ◌*◌, ◌++◌, take, drop}
use Rattle.lines.specs.Build.{u16_list}
use Rattle.lines.proofs.build.put_u16s.Given as goal

abbrev pub invariant-loop-i : goal.invariant-loop-i
invariant-loop-i l = l.field ≡ u16_list (take l.i l.numbers) ++ drop (2 * l.i) l.fn.field
