-- 02, S-8, on the plain machine by computation: the lists of its story, and the one-copy order of the one after the restart.
use mathlib.Core.Path.{◌≡◌, refl}
use mathlib.Core.List.{List, [], ◌∷◌, ◌++◌}
use lib.ListN.{length}
use Rattle.replication.specs.Answer.{done}
use Rattle.replication.specs.Call.{Call}
use Rattle.machine.specs.Machine.{Step, kept, session_of, load, after_calls}
use Rattle.machine.specs.OneCopy.{Entry, entries, loaded, of_session}
use Rattle.machine.specs.Table.{calls_of}
use Rattle.machine.specs.Restarted.{morning, afternoon}
use Rattle.machine.proofs.Sort.{sort}
use Rattle.machine.proofs.History.{rank}
use Rattle.machine.proofs.Entries.{plain_history, plain_counted}
use Rattle.machine.proofs.Table.{start, computed}
use Rattle.machine.proofs.NotEmpty.{entries_of, places_of}

pub before : plain_history start (calls_of morning) ≡ morning
unfolding computed morning
before = refl

-- what load leaves after it
unfoldable pub again : Step
again = load (after_calls start (calls_of morning)).next

pub whole : again.answer ≡ done 2
unfolding again computed morning
whole = refl

pub restarted : plain_history again (calls_of afternoon) ≡ afternoon
unfolding again computed morning afternoon
restarted = refl

-- the entries of a list that begins with what r left: the transactions that are not retired, then the list's own
abbrev pub entries_after : Step → List Call → List Entry
entries_after r H =
    let m = r.next in
    loaded 0 m.retired (kept m) ++ entries (length (kept m)) (λ s. (session_of m s).waiting) (plain_counted r H)

-- of the second list: the two loaded transactions have the places 0 and 1
unfoldable pub afternoon_entries : List Entry
unfolding again entries_of loaded morning afternoon
afternoon_entries = entries_after again (calls_of afternoon)

-- in the order the read at 2 stands before the first loaded transaction, and the collect at 5 between the two
pub restart_order : places_of (sort rank afternoon_entries) ≡ 2 ∷ 0 ∷ 5 ∷ 1 ∷ 7 ∷ 9 ∷ []
unfolding afternoon_entries
restart_order = refl

-- session 1: its collect, then its commit
pub restart_session : places_of (of_session 1 (sort rank afternoon_entries)) ≡ 5 ∷ 9 ∷ []
unfolding afternoon_entries of_session
restart_session = refl
