-- Laws of entries in lent memory.
use Rattle.std.proofs.Common.{◌≡◌, ℕ, ◌+◌, ◌*◌, ◌<◌, ◌≤◌, true, ltb, leb, [], ◌∷◌, ltb-true, leb-true}
use Rattle.carts.proofs.TestLaws.{all_at}
use Rattle.journal.specs.declared.history.History.{History}
use Rattle.journal.specs.History.{has_room}

-- what room for an entry means
pub room_facts : (h : History) (entries store size : ℕ) → has_room h entries store size ≡ true
    → (size ≤ 2640) × ((h.entries < entries) × ((80 * h.slots + 2640 ≤ store) × ((h.entries < 65535) × (h.slots < 65535))))
unfolding has_room
room_facts h entries store size e =
    let tests = leb size 2640 ∷ ltb h.entries entries ∷ leb (80 * h.slots + 2640) store ∷ ltb h.entries 65535 ∷ ltb h.slots 65535 ∷ [] in
    (leb-true size 2640 (all_at 0 tests e), (ltb-true h.entries entries (all_at 1 tests e), (leb-true (80 * h.slots + 2640) store (all_at 2 tests e), (ltb-true h.entries 65535 (all_at 3 tests e), ltb-true h.slots 65535 (all_at 4 tests e)))))
