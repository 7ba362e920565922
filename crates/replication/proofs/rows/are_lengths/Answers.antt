use mathlib.Core.Bool.{and-true, and_assoc}
use Rattle.carts.specs.Bytes.{all}
use Rattle.replication.specs.Memory.{lengths_form}
use Rattle.replication.proofs.rows.are_lengths.Goals as goal

pub returns : goal.returns
unfolding lengths_form all
returns c = rw (and-true, and_assoc)
