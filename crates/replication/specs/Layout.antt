-- Document 01, "Of this layout", with document 02's S-9: a test of control and the three memories, for any bytes and any control.
use Rattle.std.specs.Prelude.{Bool, cond, List, [], ◌∷◌, ℕ, ◌+◌, ◌-◌, leb, eqb}
use Rattle.carts.specs.Bytes.{part, byte, within, all, every, all_zero, each_part}
use Rattle.carts.specs.Cart.{title_size, number_at, title_at, copy_size, copy_form}
use Rattle.replication.specs.Memory.{Memory, copy_count, sixth, most_commits, session_size, session_count, studio_count, window, copy_at, sequence_of, nth, studio_of}
use Rattle.edit_log.specs.Chains.{chains_form}
use Rattle.replication.specs.Log.{log_count}
use Rattle.replication.specs.Request.{request_fields}
use Rattle.replication.specs.declared.control.Control.{Control}

-- a copy: of carts for the head end and studios 1 to S; "studios above S have .. all-zero copies"
unfoldable pub replica_form : ℕ → ℕ → List ℕ → Bool
replica_form studios i copy = cond (leb i studios) (copy_form copy) (all_zero copy)

-- 02, S-9: "the sixth copy is empty while retired is 0"; it has the form of a copy
unfoldable pub sixth_form : ℕ → List ℕ → Bool
sixth_form retired copy = cond (eqb retired 0) (all_zero copy) (copy_form copy)

-- "With byte 0 zero, byte 1 and bytes 16–79 are zero", else a read
unfoldable pub waiting_form : List ℕ → Bool
waiting_form s = cond (eqb (byte s 0) 0) (all (eqb (byte s 1) 0 ∷ all_zero (part s title_at title_size) ∷ [])) (request_fields s)

-- "An unused session is all zero"; "each session number ≤ commits"; "Bytes 4–15 zero"
unfoldable pub session_form_of : ℕ → ℕ → List ℕ → Bool
session_form_of studio commits x =
    cond (eqb studio 0) (all_zero x)
    (all (leb (sequence_of x) commits ∷ all_zero (part x (number_at + 2) (title_at - number_at - 2)) ∷ waiting_form x ∷ []))

unfoldable pub session_form : Control → ℕ → List ℕ → Bool
session_form c s x = session_form_of (studio_of c s) c.commits x

-- "applied ≤ sent ≤ commits and sent − applied ≤ 32 for each studio; studios above S have both at 0"; S-9: "retired ≤ applied for studios 1 to S"
unfoldable pub counts_form : Control → ℕ → Bool
counts_form c i =
    let sent = nth c.sent i in
    let applied = nth c.applied i in
    cond (leb i c.studios)
    (all (leb applied sent ∷ leb sent c.commits ∷ leb (sent - applied) window ∷ leb c.retired applied ∷ []))
    (all (eqb sent 0 ∷ eqb applied 0 ∷ []))

-- "every field above is within its rule"; S-9: "a control with more commits is not of the layout", and the log's chain and the free chain
unfoldable pub layout_tests : Control → Memory → List Bool
layout_tests c m =
    within 1 studio_count c.studios
    ∷ every (λ i. leb i c.studios) c.session_studios
    ∷ leb c.commits most_commits
    ∷ every (counts_form c) (1 ∷ 2 ∷ 3 ∷ 4 ∷ [])
    ∷ each_part (replica_form c.studios) copy_size copy_count 0 m.library
    ∷ sixth_form c.retired (copy_at m.library sixth)
    ∷ chains_form (log_count c) m.log c.used c.oldest c.free_first c.free_last
    ∷ each_part (session_form c) session_size session_count 1 m.sessions ∷ []

unfoldable pub of_layout : Control → Memory → Bool
of_layout c m = all (layout_tests c m)
