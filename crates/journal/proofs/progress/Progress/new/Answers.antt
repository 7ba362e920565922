use Rattle.carts.specs.Bytes.{zeros}
use Rattle.van.specs.Receive.{fresh_van}
use Rattle.journal.specs.Progress.{start}
use Rattle.journal.proofs.progress.Progress.new.Goals as goal

pub returns : goal.returns
unfolding start zeros fresh_van
returns c = rw (c.new.ensures, c.new-2.ensures)
