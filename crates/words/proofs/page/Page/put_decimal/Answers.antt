use Rattle.std.proofs.Common.{refl, arith}
use Rattle.words.proofs.PageLaws.{decimal_written}
use Rattle.words.proofs.page.Page.put_decimal.Goals as goal

pub put-requires : goal.put-requires
put-requires c = rw (c.decimal-count.ensures.digits, decimal_written c.args.n c.decimal-count.result (omega arith) c.decimal-count.ensures.len) c.requires

pub returns : goal.returns
returns c = rw (c.put.ensures.text, c.decimal-count.ensures.digits, decimal_written c.args.n c.decimal-count.result (omega arith) c.decimal-count.ensures.len) refl
