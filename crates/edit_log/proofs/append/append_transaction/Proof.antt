use Rattle.edit_log.proofs.CommitLaws.{before_last, append_first, append_later}
use native.Mathlib.Omega.{arith}
use borrow.Author.Rules.{rules}
use Rattle.edit_log.proofs.append.append_transaction.Statement.{statement}
use Rattle.edit_log.proofs.append.append_transaction.Tie as tie

write-all-requires : tie.Need-write_all-requires
write-all-requires c κs = search rules

same_length : tie.Need-shape_of-log-then-transactions-eq0
same_length c = search rules

returns : tie.Need-returns-then-transactions-eq0
returns c = let w = c.write_all.ensures in let g = c.args in (append_first g.transactions g.log.now g.oldest g.first g.ops.now c.if-transactions-eq0.true _ w.0, w.1)

sub-walk-on : tie.Need-overflow_sub-transactions
sub-walk-on c = search rules

walk-on-requires : tie.Need-walk_on-last-requires
walk-on-requires c κs = let g = c.args in (c.requires.0.0, (before_last g.transactions g.log.now g.oldest c.if-transactions-eq0.false c.requires.1.0).0)

write-all-requires-2 : tie.Need-write_all-next-requires
write-all-requires-2 c κs = search rules

put-requires : tie.Need-put-requires
put-requires c κs = let g = c.args in
    let k = (before_last g.transactions g.log.now g.oldest c.if-transactions-eq0.false c.requires.1.0).1 in
    let e = c.walk_on-last.ensures in
    ((rw e k.0, omega (arith, k.1, e, c.write_all-next.auto.log, c.requires.0.0)), (omega arith, c.requires.1.1))

same-length-2 : tie.Need-shape_of-log
same-length-2 c = search rules

returns-2 : tie.Need-returns
returns-2 c = let g = c.args in
    let w = c.write_all-next.ensures in
    (append_later g.transactions g.log.now g.oldest g.first g.ops.now c.if-transactions-eq0.false c.requires.0.1.0 _ c.walk_on-last.ensures _ w.0 _ c.put.ensures, w.1)

pub append_transaction_spec : {M : Type 1} → statement M
append_transaction_spec =
    tie.close
    (tie.spec
    write-all-requires
    same_length
    returns
    sub-walk-on
    walk-on-requires
    write-all-requires-2
    put-requires
    same-length-2
    returns-2)
