-- The places of a list's entries rise: no two entries are one.
use Prim.Native.Nat.{ℕ, ◌+◌, ◌≤◌}
use native.Mathlib.Omega.{arith}
use native.Mathlib.Nat.{le_trans}
use mathlib.Core.List.{List, [], ◌∷◌, ◌++◌, map}
use lib.Dec.{eqb}
use Rattle.carts.proofs.TestLaws.{by_cond}
use Rattle.replication.specs.Answer.{Answer, refused, done, waits, answered}
use Rattle.replication.specs.Request.{Request}
use Rattle.machine.specs.Library.{Input, Reply}
use Rattle.machine.specs.OneCopy.{Event, Counted, Entry, entry, commit_replies, read_replies, read_entry, Kind, writes, reads, collects, neither, kind_of, entry_of, waited_after, entries}

-- each entry's place is at least i, and higher than the place of the one before it
abbrev pub RiseFrom : ℕ → List Entry → Type 0
RiseFrom i [] = Unit {0}
RiseFrom i (e ∷ E) = (i ≤ e.place) × RiseFrom (e.place + 1) E

rise_later : (i j : ℕ) (E : List Entry) → i ≤ j → RiseFrom j E → RiseFrom i E
rise_later i j [] u h = tt
rise_later i j (e ∷ E) u h = (le_trans u h.0, h.1)

-- one call's entry, before entries that rise from the next place
module _ (i : ℕ) (E : List Entry) (after : RiseFrom (i + 1) E) where
  no_entry : RiseFrom i E
  no_entry = rise_later i (i + 1) E (omega arith) after

  commit_rises : (s : ℕ) (x : Input) (n : ℕ) (a : Answer) → RiseFrom i (map (entry i s x) (commit_replies n a) ++ E)
  unfolding commit_replies
  commit_rises s x n (done k) = (omega arith, after)
  commit_rises s x n (refused k) = by_cond (λ (r : List Reply). RiseFrom i (map (entry i s x) r ++ E)) (eqb k 8) _ _ (λ _. (omega arith, after)) (λ _. no_entry)
  commit_rises s x n (answered state found) = no_entry
  commit_rises s x n (waits k) = no_entry

  read_rises : (s : ℕ) (x : Input) (out : List ℕ) (a : Answer) → RiseFrom i (map (entry i s x) (read_replies out a) ++ E)
  unfolding read_replies
  read_rises s x out (answered state found) = (omega arith, after)
  read_rises s x out (done n) = no_entry
  read_rises s x out (refused n) = no_entry
  read_rises s x out (waits n) = no_entry

  entry_rises : (waited : ℕ → Request) (x : Kind) (n : ℕ) (a : Answer) (out : List ℕ) → RiseFrom i (entry_of i waited x n a out ++ E)
  unfolding entry_of read_entry
  entry_rises waited (writes s bytes) n a out = commit_rises s _ n a
  entry_rises waited (reads s bytes) n a out = read_rises s _ _ a
  entry_rises waited (collects s) n a out = read_rises s _ _ a
  entry_rises waited neither n a out = no_entry

pub places_rise : (i : ℕ) (waited : ℕ → Request) (es : List Counted) → RiseFrom i (entries i waited es)
unfolding entries
places_rise i waited [] = tt
places_rise i waited (e ∷ es) =
    let x : Event = e.event in
    let kind : Kind = kind_of x.call in
    let next : ℕ → Request = waited_after waited kind x.answer in
    entry_rises i (entries (i + 1) next es) (places_rise (i + 1) next es) waited kind e.commits x.answer x.output
