use mathlib.Core.Path.{sym, ap}
use Rattle.replication.specs.Values.{needed_by}
use Rattle.replication.proofs.session.Session.needed.Goals as goal

pub returns-in-Numbers : goal.returns-in-Numbers
returns-in-Numbers c = sym (ap needed_by c.in-Numbers.is)
