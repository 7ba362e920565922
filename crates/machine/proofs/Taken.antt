-- 02, S-3, on the plain machine by computation: the list of its story, the list's one-copy order, and an order that the count excludes.
use Prim.Native.Nat.{ℕ}
use native.Mathlib.Omega.{arith}
use mathlib.Core.Path.{◌≡◌, refl, ap}
use mathlib.Core.List.{List, [], ◌∷◌}
use lib.ListN.{get_or}
use Rattle.replication.specs.Call.{commit}
use Rattle.machine.specs.Library.{operations, Reply, number, at, refused8, empty_library, serve, play}
use Rattle.machine.specs.OneCopy.{Entry, entry, OneCopy}
use Rattle.machine.specs.Table.{A, calls_of}
use Rattle.machine.specs.Taken.{forty, new40, taking}
use Rattle.machine.proofs.Sort.{sort}
use Rattle.machine.proofs.History.{state_of, rank}
use Rattle.machine.proofs.Entries.{plain_history}
use Rattle.machine.proofs.Table.{start, computed}
use Rattle.machine.proofs.NotEmpty.{entries_of, places_of}

pub told_then_shown : plain_history start (calls_of taking) ≡ taking
unfolding computed forty new40 taking
told_then_shown = refl

-- the refused commit is an entry, at place 3; in the order it stands after the commit that filled the cart, and before the collect
pub taking_order : places_of (sort rank (entries_of (calls_of taking))) ≡ 2 ∷ 6 ∷ 0 ∷ 3 ∷ 11 ∷ 7 ∷ []
unfolding entries_of forty new40 taking
taking_order = refl

-- three commits, the second refused: their entries
unfoldable pub filled : Entry
filled = entry 0 3 (operations (new40 ∷ [])) (number 1)

unfoldable pub told : Entry
told = entry 1 1 (operations (new40 ∷ [])) (at 1 refused8)

unfoldable pub next : Entry
next = entry 2 3 (operations (A ∷ [])) (number 2)

pub three_entries : entries_of (commit 3 new40 ∷ commit 1 new40 ∷ commit 3 A ∷ []) ≡ filled ∷ told ∷ next ∷ []
unfolding entries_of new40 filled told next
three_entries = refl

-- behind commit 2 the library refuses it with 8 too, and has two commits: that is no one-copy order
pub not_elsewhere : OneCopy empty_library (filled ∷ told ∷ next ∷ []) (filled ∷ next ∷ told ∷ []) → ⊥
unfolding computed new40 filled told next empty_library serve play
not_elsewhere h =
    let counts : ◌≡◌ {A = ℕ} 2 1 = ap (λ (rs : List Reply). state_of (get_or rs 2 (number 0))) h.answers in
    omega arith
