use Rattle.std.proofs.Common.{◌≡◌, arith, length}
use Rattle.lines.proofs.ParseLaws.{passed_all, numbers_turn, numbers_full}
use Rattle.lines.proofs.parse.numbers.Goals as goal

pub returns-then-not-is_in : goal.returns-then-not-is_in
returns-then-not-is_in c =
    let t = c.loop-n in
    let p = rw (← c.number.ensures.value, ← c.number.ensures.cursor, ← c.peek.ensures, ← c.is_in.ensures, c.if-not-is_in.true) at (numbers_turn _ t.c c.args.most t.n c.args.out.now t.out t.invariant (omega arith)) in
    (passed_all _ 1 _ _ _ _ p, omega arith)

pub loop-n-preserved : goal.loop-n-preserved
loop-n-preserved c =
    let t = c.loop-n in
    rw (← c.number.ensures.value, ← c.number.ensures.cursor, ← c.peek.ensures, ← c.is_in.ensures, c.if-not-is_in.false) at (numbers_turn _ t.c c.args.most t.n c.args.out.now t.out t.invariant (omega arith))

pub returns : goal.returns
returns c =
    let t = c.loop-n in
    let e : length t.out ≡ t.n = omega arith in
    let p = numbers_full _ t.c c.args.most t.n c.args.out.now t.out t.invariant (omega arith) in
    (rw (e, c.stop.ensures) (passed_all _ 1 _ _ _ _ p), omega arith)
