-- 02, S-9, on the plain machine by computation: the lists of its story, and the one-copy order of the one after the restart.
use mathlib.Core.Path.{◌≡◌, refl}
use mathlib.Core.List.{List, [], ◌∷◌}
use Rattle.replication.specs.Answer.{done}
use Rattle.machine.specs.Machine.{Step, load, after_calls}
use Rattle.machine.specs.OneCopy.{Entry, loaded}
use Rattle.machine.specs.Table.{calls_of}
use Rattle.machine.specs.Retired.{week, weekend}
use Rattle.machine.proofs.Sort.{sort}
use Rattle.machine.proofs.History.{rank}
use Rattle.machine.proofs.Entries.{plain_history}
use Rattle.machine.proofs.Table.{start, computed}
use Rattle.machine.proofs.NotEmpty.{entries_of, places_of}
use Rattle.machine.proofs.Restarted.{entries_after}

pub retired : plain_history start (calls_of week) ≡ week
unfolding computed week
retired = refl

-- what load leaves after it
unfoldable pub again : Step
again = load (after_calls start (calls_of week)).next

pub whole : again.answer ≡ done 2
unfolding again computed week
whole = refl

pub went_on : plain_history again (calls_of weekend) ≡ weekend
unfolding again computed week weekend
went_on = refl

-- the entries of the second list: the one loaded transaction, number 2, has the place 0
unfoldable pub weekend_entries : List Entry
unfolding again entries_of loaded week weekend
weekend_entries = entries_after again (calls_of weekend)

-- in the order the read at 1, with state 1, stands before it, and the collect at 5, with state 2, after it; no retire is an entry
pub weekend_order : places_of (sort rank weekend_entries) ≡ 1 ∷ 0 ∷ 5 ∷ 2 ∷ 10 ∷ 19 ∷ 20 ∷ []
unfolding weekend_entries
weekend_order = refl
