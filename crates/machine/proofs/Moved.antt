-- 02, S-7, on the plain machine by computation: the list of its story, and the list's one-copy order.
use mathlib.Core.Path.{◌≡◌, refl}
use mathlib.Core.List.{[], ◌∷◌}
use Rattle.machine.specs.OneCopy.{of_session}
use Rattle.machine.specs.Table.{calls_of}
use Rattle.machine.specs.Moved.{walk}
use Rattle.machine.proofs.Sort.{sort}
use Rattle.machine.proofs.History.{rank}
use Rattle.machine.proofs.Entries.{plain_history}
use Rattle.machine.proofs.Table.{start, computed}
use Rattle.machine.proofs.NotEmpty.{entries_of, places_of}

pub moved : plain_history start (calls_of walk) ≡ walk
unfolding computed walk
moved = refl

-- two commits and five reads; no move is an entry
pub walk_order : places_of (sort rank (entries_of (calls_of walk))) ≡ 0 ∷ 5 ∷ 6 ∷ 1 ∷ 10 ∷ 17 ∷ 25 ∷ []
unfolding entries_of walk
walk_order = refl

-- "In it any two of one session stand as they stood in H": session 1, which read at both studios
pub walk_session : places_of (of_session 1 (sort rank (entries_of (calls_of walk)))) ≡ places_of (of_session 1 (entries_of (calls_of walk)))
unfolding entries_of walk of_session
walk_session = refl
