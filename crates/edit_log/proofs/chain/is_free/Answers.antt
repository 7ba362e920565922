use mathlib.Core.Bool.{and-true}
use Rattle.carts.specs.Bytes.{all}
use Rattle.edit_log.specs.Chains.{free_form}
use Rattle.edit_log.proofs.chain.is_free.Goals as goal

pub returns : goal.returns
unfolding free_form all
returns c = rw (c.all_zero.ensures, c.all_zero-2.ensures, and-true)
