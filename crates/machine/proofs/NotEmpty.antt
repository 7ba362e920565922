-- The one-copy order is not claimed of nothing: a list with a wait, its collect, refusals and accepted commits has six entries. Previews and the van's writer
-- have none.
use mathlib.Core.Path.{◌≡◌, refl}
use mathlib.Core.List.{List, [], ◌∷◌, map}
use Prim.Native.Nat.{ℕ}
use Rattle.replication.specs.Request.{nothing}
use Rattle.replication.specs.Call.{Call}
use Rattle.machine.specs.OneCopy.{Entry, commit_replies, read_replies, read_entry, kind_of, entry_of, waited_after, entries}
use Rattle.machine.specs.Table.{cases2to10, calls_of}
use Rattle.machine.proofs.Entries.{plain_counted}
use Rattle.machine.proofs.Table.{start, computed, trying}
use Rattle.machine.proofs.Messages.{writing}

-- the entries of a list of calls from the table's start, and the places of entries
unfoldable pub entries_of : List Call → List Entry
unfolding computed plain_counted commit_replies read_replies read_entry entry_of waited_after kind_of entries
entries_of H = entries 0 (λ s. nothing) (plain_counted start H)

abbrev pub places_of : List Entry → List ℕ
places_of E = map (λ (e : Entry). e.place) E

-- of the table's cases 2 to 10: two commits, a read of another session, the collect of the read that waited, and the commits that cases 8 and 10 refuse
pub six_entries : places_of (entries_of (calls_of cases2to10)) ≡ 0 ∷ 2 ∷ 7 ∷ 8 ∷ 9 ∷ 10 ∷ []
unfolding entries_of cases2to10
six_entries = refl

-- of the list with previews, two of which answer 8: two commits and two reads
pub previews_have_none : places_of (entries_of (calls_of trying)) ≡ 4 ∷ 5 ∷ 7 ∷ 11 ∷ []
unfolding entries_of trying
previews_have_none = refl

-- of the list with messages written: two commits and a read
pub writes_have_none : places_of (entries_of (calls_of writing)) ≡ 1 ∷ 6 ∷ 11 ∷ []
unfolding entries_of writing
writes_have_none = refl
