use mathlib.Core.Bool.{and-true}
use Rattle.carts.specs.Bytes.{all, within}
use Rattle.replication.specs.Rows.{size_form}
use Rattle.replication.proofs.commit.is_size.Goals as goal

pub returns : goal.returns
unfolding size_form all within
returns c = rw and-true
