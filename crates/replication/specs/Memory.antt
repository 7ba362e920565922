-- Document 01, "The memory a caller lends": the three memories and their parts.
use Rattle.std.specs.Prelude.{◌≡◌, Bool, List, [], ◌∷◌, ℕ, ◌*◌, ◌-◌, length, get_or, eqb}
use Rattle.carts.specs.Bytes.{part, over, u16, u16_bytes, all}
use Rattle.carts.specs.Cart.{copy_size, number_at}
use Rattle.edit_log.specs.Log.{log_size}
use Rattle.replication.specs.declared.control.Control.{Control}

pub record Memory : Type 0 where
  pub library : List ℕ
  pub log : List ℕ
  pub sessions : List ℕ

abbrev pub memory : List ℕ → List ℕ → List ℕ → Memory
memory library log sessions = record { library = library; log = log; sessions = sessions }

-- "Library memory": the head end's copy and the studios', "copies of 10,240"; by 02, S-9, "a sixth copy placed last in library memory (now
-- 61,440 bytes)"
abbrev pub copy_count : ℕ
copy_count = 5

abbrev pub sixth : ℕ
sixth = 5

abbrev pub library_size : ℕ
library_size = 61440

-- S-9: "Commit numbers run to 65,535"
abbrev pub most_commits : ℕ
most_commits = 65535

-- "Session memory, 1,280 bytes: 16 sessions of 80 bytes, counted from 1"
abbrev pub session_size : ℕ
session_size = 80

abbrev pub session_count : ℕ
session_count = 16

abbrev pub sessions_size : ℕ
sessions_size = 1280

-- "count of numbers 1–32"
abbrev pub numbers_most : ℕ
numbers_most = 32

-- "S (studios, 1 to 4)"
abbrev pub studio_count : ℕ
studio_count = 4

-- "sent − applied ≤ 32"
abbrev pub window : ℕ
window = 32

-- the three memories have their lengths
unfoldable pub lengths_form : Memory → Bool
lengths_form m = all (eqb (length m.library) library_size ∷ eqb (length m.log) log_size ∷ eqb (length m.sessions) sessions_size ∷ [])

-- "first the head end's, then studios 1 to 4": copy 0 is the head end's (primary), copy i studio i's (replica); S-9: copy 5 is the sixth
unfoldable pub copy_at : List ℕ → ℕ → List ℕ
copy_at library i = part library (copy_size * i) copy_size

unfoldable pub with_copy : List ℕ → ℕ → List ℕ → List ℕ
with_copy library i copy = over library (copy_size * i) copy_size copy

-- session s, counted from 1
unfoldable pub session_at : List ℕ → ℕ → List ℕ
session_at sessions s = part sessions (session_size * (s - 1)) session_size

unfoldable pub with_session : List ℕ → ℕ → List ℕ → List ℕ
with_session sessions s x = over sessions (session_size * (s - 1)) session_size x

-- "Bytes 2–3: the session's number" (its sequence number)
unfoldable pub sequence_of : List ℕ → ℕ
sequence_of x = u16 x number_at

unfoldable pub with_sequence : ℕ → List ℕ → List ℕ
with_sequence n x = over x number_at 2 (u16_bytes n)

-- "the session's number becomes .."
abbrev pub with_number : List ℕ → ℕ → ℕ → List ℕ
with_number sessions s n = with_session sessions s (with_sequence n (session_at sessions s))

-- control's entry for session or studio i, counted from 1
abbrev pub nth : List ℕ → ℕ → ℕ
nth l i = get_or l (i - 1) 0

-- "each session's studio (0 = session unused, else 1 to S)"
unfoldable pub studio_of : Control → ℕ → ℕ
studio_of c s = nth c.session_studios s

-- Control's arrays have the lengths that their types in the code give them.
pub record Arrays (c : Control) : Type 0 where
  pub session_studios : length c.session_studios ≡ session_count
  pub sent : length c.sent ≡ studio_count
  pub applied : length c.applied ≡ studio_count
