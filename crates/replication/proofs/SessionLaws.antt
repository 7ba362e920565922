-- Laws of a session: its bytes, its number, its waiting read, and the studio that it reads from.
use Prim.Native.Nat.{ℕ, zero, suc, ◌-◌, ◌<◌, ◌≤◌}
use mathlib.Core.Path.{◌≡◌, refl, sym, ap, ◌∙◌}
use mathlib.Core.Bool.{Bool, true, false, false≢true}
use mathlib.Core.List.{List, [], ◌∷◌, ◌++◌}
use native.Mathlib.Omega.{arith}
use lib.ListN.{length, get_or}
use lib.Dec.{eqb, leb}
use borrow.Author.Tests.{eqb-true, ne_eqb, leb-true, le-leb}
use Rattle.carts.specs.Bytes.{part, byte, all, every, all_zero}
use Rattle.carts.proofs.TestLaws.{and_left, and_right, all_at}
use Rattle.replication.specs.Memory.{Memory, nth, sequence_of, studio_of}
use Rattle.replication.specs.Request.{request_of, request_fields, request_form, is_waiting, needed}
use Rattle.replication.specs.Layout.{waiting_form, session_form, session_form_of}
use Rattle.replication.specs.Values.{session_value, waits_by, needed_by}
use Rattle.replication.specs.declared.control.Control.{Control}
use Rattle.replication.specs.declared.session.Session.{Session}
use Rattle.replication.specs.Rows.{stopped, memory_rows, session_row}
use Rattle.replication.proofs.DecideLaws.{KnownSession, known_session_law, first_formed, first_who}
use Rattle.replication.proofs.Formed.{Formed, few, applied_known}
use Rattle.replication.proofs.RequestLaws.{waiting_is, needed_is}
use Rattle.replication.proofs.OutputLaws.{value_waiting}

-- what the code's value says of a read's bytes
module _ (x : List ℕ) (v : Session) (e : v ≡ session_value x) where
  pub waits_is : (b : Bool) → b ≡ waits_by v.waiting → is_waiting (request_of x) ≡ b
  waits_is b f = waiting_is x ∙ ap waits_by (sym (value_waiting x v e)) ∙ sym f

  pub needs_is : (n : ℕ) → n ≡ needed_by v.waiting → needed (request_of x) ≡ n
  needs_is n f = needed_is x ∙ ap needed_by (sym (value_waiting x v e)) ∙ sym f

-- the same of a session's bytes, where they are read from session memory
pub own_waits : (x own : List ℕ) (v : Session) → own ≡ x → v ≡ session_value own → (b : Bool) → b ≡ waits_by v.waiting → is_waiting (request_of x) ≡ b
own_waits x own v o e b f = waits_is x v (e ∙ ap session_value o) b f

pub own_needs : (x own : List ℕ) (v : Session) → own ≡ x → v ≡ session_value own → (n : ℕ) → n ≡ needed_by v.waiting → needed (request_of x) ≡ n
own_needs x own v o e n f = needs_is x v (e ∙ ap session_value o) n f

-- a session that row 3 does not stop stands in session memory
pub session_placed : (c : Control) (m : Memory) (s studio : ℕ) → Formed c m → KnownSession s studio → (length m.sessions ≡ 1280) × ((1 ≤ s) × (s ≤ 16))
session_placed c m s studio f w = (f.sessions.size, (w.low, w.high))

pub session_found : (c : Control) (m : Memory) (s : ℕ) → 0 ≡ stopped (memory_rows c m ++ (session_row s (studio_of c s) ∷ []))
    → (length m.sessions ≡ 1280) × ((1 ≤ s) × (s ≤ 16))
session_found c m s e = session_placed c m s (studio_of c s) (first_formed c m _ 0 e refl) (known_session_law s (studio_of c s) (first_who c m _ 0 e refl))

-- the same, and the studio that it reads from
pub record Caller (c : Control) (m : Memory) (s : ℕ) : Type 0 where
  pub library : length m.library ≡ 61440
  pub place : (length m.sessions ≡ 1280) × ((1 ≤ s) × (s ≤ 16))
  pub studio : (1 ≤ studio_of c s) × (studio_of c s ≤ 4)
  pub state : nth c.applied (studio_of c s) < 65536
  pub commits : c.commits < 65536

-- an element of a list that passes, or the default
every_default : (p : ℕ → Bool) (l : List ℕ) (d i : ℕ) → p d ≡ true → every p l ≡ true → p (get_or l i d) ≡ true
unfolding every
every_default p [] d i e f = e
every_default p (x ∷ xs) d zero e f = and_left (p x) (every p xs) f
every_default p (x ∷ xs) d (suc i) e f = every_default p xs d i e (and_right (p x) (every p xs) f)

studio_among : (c : Control) (m : Memory) (s : ℕ) → Formed c m → studio_of c s ≤ c.studios
unfolding studio_of
studio_among c m s f = leb-true _ _ (every_default (λ i. leb i c.studios) c.session_studios 0 (s - 1) (le-leb 0 c.studios (omega arith)) f.control.places)

pub caller : (c : Control) (m : Memory) (s : ℕ) → Formed c m → KnownSession s (studio_of c s) → Caller c m s
caller c m s f w =
    let i : ℕ = studio_of c s in
    let used : i ≡ 0 → ⊥ = w.used in
    let known : i ≤ c.studios = studio_among c m s f in
    let four : c.studios ≤ 4 = few c m f in
    let low : 1 ≤ i = omega arith in
    let high : i ≤ 4 = omega arith in
    let applied : nth c.applied i ≤ c.commits = applied_known c i (f.counts i low high) in
    let commits : c.commits ≤ 65535 = f.control.few in
    record { library = f.library.size; place = session_placed c m s (studio_of c s) f w; studio = (low, high); state = omega arith; commits = omega arith }

-- a read of its form, with room for what it asks
pub record Asked (x : List ℕ) (room : ℕ) : Type 0 where
  pub size : length x ≡ 80
  pub fields : request_fields x ≡ true
  pub fits : needed (request_of x) ≤ room

pub asked_same : (x y : List ℕ) (n : ℕ) → y ≡ x → Asked x n → Asked y n
asked_same x y n e a = rw e a

pub request_parts : (x : List ℕ) → request_form x ≡ true → (length x ≡ 80) × (request_fields x ≡ true)
unfolding request_form
request_parts x f =
    let tests : List Bool = eqb (length x) 80 ∷ request_fields x ∷ all_zero (part x 2 14) ∷ [] in
    (eqb-true _ _ (all_at 0 tests f), all_at 1 tests f)

-- a session that has a read waiting has its fields
pub waiting_fields : (x : List ℕ) → is_waiting (request_of x) ≡ true → waiting_form x ≡ true → request_fields x ≡ true
unfolding waiting_form request_of is_waiting
waiting_fields x w f = go (eqb (byte x 0) 0) refl
  where
    go : (b : Bool) → eqb (byte x 0) 0 ≡ b → request_fields x ≡ true
    go true e = absurd (false≢true (rw (eqb-true (byte x 0) 0 e) at w))
    go false e = rw e at f

pub session_fields : (c : Control) (s : ℕ) (x : List ℕ) → (studio_of c s ≡ 0 → ⊥) → session_form c s x ≡ true → waiting_form x ≡ true
unfolding session_form session_form_of
session_fields c s x used f =
    let tests : List Bool = leb (sequence_of x) c.commits ∷ all_zero (part x 4 12) ∷ waiting_form x ∷ [] in
    let g : all tests ≡ true = rw (ne_eqb (studio_of c s) 0 used) at f in
    all_at 2 tests g
