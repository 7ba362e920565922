use Rattle.carts.proofs.RefusalLaws.{other_than_8}
use Rattle.replication.specs.Calls.{told_sessions}
use Rattle.replication.proofs.commit.tell_session.Goals as goal

pub put_number-requires : goal.put_number-requires
put_number-requires c = let k = c.requires c.in-WrongState.is in record { memory = k.0; number = k.1 }

pub returns-in-WrongState : goal.returns-in-WrongState
unfolding told_sessions
returns-in-WrongState c = rw c.in-WrongState.is c.put_number.ensures

pub returns-in_default : goal.returns-in_default
unfolding told_sessions
returns-in_default c = rw (other_than_8 _ c.in_default.not-WrongState)
