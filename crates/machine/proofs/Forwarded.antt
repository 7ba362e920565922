-- 02, S-4, on the plain machine by computation: the list of its story, and the list's one-copy order.
use mathlib.Core.Path.{◌≡◌, refl}
use mathlib.Core.List.{[], ◌∷◌}
use Rattle.machine.specs.Table.{title_read, calls_of}
use Rattle.machine.specs.Forwarded.{eight, new8, hour}
use Rattle.machine.proofs.Sort.{sort}
use Rattle.machine.proofs.History.{rank}
use Rattle.machine.proofs.Entries.{plain_history}
use Rattle.machine.proofs.Table.{start, computed}
use Rattle.machine.proofs.NotEmpty.{entries_of, places_of}

pub forwarded : plain_history start (calls_of hour) ≡ hour
unfolding computed title_read eight new8 hour
forwarded = refl

-- seven reads, by forward, read and collect, and four commits; the forward at place 2, of session 2, stands before the commit at place 0
pub hour_order : places_of (sort rank (entries_of (calls_of hour))) ≡ 2 ∷ 0 ∷ 1 ∷ 6 ∷ 7 ∷ 3 ∷ 8 ∷ 9 ∷ 10 ∷ 20 ∷ 21 ∷ []
unfolding entries_of title_read eight new8 hour
hour_order = refl
