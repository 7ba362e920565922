-- Move: it keeps the layout, and does what the plain machine's move does.
use mathlib.Core.Path.{◌≡◌, refl, ◌∙◌}
use mathlib.Core.Logic.{◌≢◌}
use mathlib.Core.Bool.{Bool, true}
use mathlib.Core.List.{List, [], ◌∷◌}
use Prim.Native.Nat.{ℕ, zero, suc, ◌-◌, ◌≤◌}
use native.Mathlib.Omega.{arith}
use native.Mathlib.Decide.{ℕ_discrete}
use lib.Dec.{leb}
use lib.ListN.{get_or, set, length-set}
use lib.Seq.{get_or-set_same, get_or-set_other}
use borrow.Author.Tests.{ne_eqb, le-leb}
use Rattle.carts.specs.Bytes.{every}
use Rattle.carts.specs.Transaction.{Transaction}
use Rattle.carts.proofs.TestLaws.{and_left, and_right}
use Rattle.replication.specs.Memory.{Memory, Arrays, session_at, sequence_of, studio_of}
use Rattle.replication.specs.Request.{nothing, request_of}
use Rattle.replication.specs.Log.{log_count}
use Rattle.replication.specs.Layout.{session_form_of, session_form, counts_form}
use Rattle.replication.specs.Rows.{Row, stopped, move_rows, move_stop}
use Rattle.replication.specs.Calls as Bytes
use Rattle.replication.specs.Calls.{After, with_studio}
use Rattle.replication.specs.declared.control.Control.{Control}
use Rattle.replication.proofs.Formed.{Formed}
use Rattle.replication.proofs.RowLaws.{memory_passes, unless_case, unless_both}
use Rattle.replication.proofs.Accepted.{MoveAccepted, move_passed}
use Rattle.machine.specs.Machine as Plain
use Rattle.machine.specs.Machine.{Session, session}
use Rattle.refinement.specs.Represents.{OfLayout, Represents, Simulates}
use Rattle.refinement.proofs.Represented.{machine_of}
use Rattle.refinement.proofs.Sessions.{shown, session_of_law}
use Rattle.refinement.proofs.Arrays.{arrays, formed, of_layout_law}

-- one element of a list that passes becomes another that passes
every_set : (p : ℕ → Bool) (l : List ℕ) (k v : ℕ) → every p l ≡ true → p v ≡ true → every p (set l k v) ≡ true
unfolding every
every_set p [] k v h g = refl
every_set p (x ∷ l) zero v h g = rw g (and_right (p x) (every p l) h)
every_set p (x ∷ l) (suc k) v h g = rw (and_left (p x) (every p l) h) (every_set p l k v (and_right (p x) (every p l) h) g)

-- the form of a session in use is the same at every studio
same_form : (i j commits : ℕ) (x : List ℕ) → i ≢ 0 → j ≢ 0 → session_form_of i commits x ≡ session_form_of j commits x
unfolding session_form_of
same_form i j commits x u v = rw (ne_eqb i 0 u, ne_eqb j 0 v)

module _ (c : Control) (m : Memory) (s i : ℕ) where
  rows : List Row
  rows = move_rows s (studio_of c s) (request_of (session_at m.sessions s)) c.studios i

  abbrev Passed : Type 0
  Passed = MoveAccepted s (studio_of c s) (request_of (session_at m.sessions s)) c.studios i

  -- control after a move that no row stops
  moved_arrays : Arrays c → Arrays (with_studio c s i)
  unfolding with_studio
  moved_arrays a = record { session_studios = length-set c.session_studios (s - 1) i ∙ a.session_studios; sent = a.sent; applied = a.applied }

  same_commits : (with_studio c s i).commits ≡ c.commits
  unfolding with_studio
  same_commits = refl

  module _ (a : Arrays c) (p : Passed) where
    at_new : studio_of (with_studio c s i) s ≡ i
    unfolding with_studio studio_of
    at_new = get_or-set_same c.session_studios (s - 1) i 0 (omega (arith, a.session_studios, p.who.low, p.who.high))

    at_old : (q : ℕ) → 1 ≤ q → q ≢ s → studio_of (with_studio c s i) q ≡ studio_of c q
    unfolding with_studio studio_of
    at_old q l n = get_or-set_other c.session_studios (s - 1) (q - 1) i 0 (λ e. n (omega (arith, p.who.low)))

    moved_form : Formed c m → (q : ℕ) → 1 ≤ q → q ≤ 16 → session_form (with_studio c s i) q (session_at m.sessions q) ≡ true
    unfolding session_form
    moved_form f q l g = go (ℕ_discrete q s)
      where
        go : Dec (q ≡ s) → session_form_of (studio_of (with_studio c s i) q) (with_studio c s i).commits (session_at m.sessions q) ≡ true
        go (yes e) = rw (e, at_new, same_commits) (same_form i (studio_of c s) c.commits _ (λ z. omega (arith, p.there.low)) p.who.used ∙ f.sessions.forms s p.who.low p.who.high)
        go (no n) = rw (at_old q l n, same_commits) (f.sessions.forms q l g)

    moved_formed : Formed c m → Formed (with_studio c s i) m
    unfolding with_studio log_count counts_form
    moved_formed f = record {
      control = record {
        studios = f.control.studios;
        places = every_set (λ j. leb j c.studios) c.session_studios (s - 1) i f.control.places (le-leb i c.studios p.there.high);
        few = f.control.few;
      };
      library = f.library;
      log = f.log;
      sessions = record { size = f.sessions.size; forms = moved_form f };
      counts = f.counts;
    }

    -- it stands for the machine with the session at that studio
    moved_represents : (log : List Transaction) (sessions : List Session) → Represents c m (machine_of c log sessions)
        → Represents (with_studio c s i) m (machine_of c log (set sessions (s - 1) (session i (sequence_of (session_at m.sessions s)) (request_of (session_at m.sessions s)))))
    unfolding with_studio log_count
    moved_represents log sessions h = record {
      form = of_layout_law _ _ (moved_arrays a) (moved_formed (formed c m h.form));
      studios = refl;
      old = h.old;
      many = h.many;
      whole = h.whole;
      log = h.log;
      retired = refl;
      sent = refl;
      applied = refl;
      count = length-set sessions (s - 1) _ ∙ h.count;
      sessions = λ q l g. there q l g (ℕ_discrete q s);
      primary = h.primary;
      replicas = h.replicas;
      base = h.base;
    }
      where
        v : Session
        v = session i (sequence_of (session_at m.sessions s)) (request_of (session_at m.sessions s))

        there : (q : ℕ) → 1 ≤ q → q ≤ 16 → Dec (q ≡ s) → get_or (set sessions (s - 1) v) (q - 1) (session 0 0 nothing) ≡ shown (with_studio c s i) m.sessions q
        there q l g (yes e) = rw (e, at_new) (get_or-set_same sessions (s - 1) v _ (omega (arith, h.count, p.who.low, p.who.high)))
        there q l g (no n) = rw (at_old q l n) (get_or-set_other sessions (s - 1) (q - 1) v _ (λ e. n (omega (arith, p.who.low))) ∙ h.sessions q l g)

  pub move_keeps : OfLayout c m → OfLayout (Bytes.move c m s i).control (Bytes.move c m s i).memory
  unfolding Bytes.move move_stop rows
  move_keeps h =
      rw (memory_passes c m rows h.lengths h.layout)
      (unless_case (λ (r : After). OfLayout r.control r.memory) (stopped rows) _ _ (λ _ _. h)
      (λ e. of_layout_law _ _ (moved_arrays (arrays c m h)) (moved_formed (arrays c m h) (move_passed _ _ _ _ _ e) (formed c m h))))

  pub move_simulates : (log : List Transaction) (sessions : List Session) → Represents c m (machine_of c log sessions)
      → Simulates (Bytes.move c m s i) (Plain.move (machine_of c log sessions) s i)
  unfolding Bytes.move move_stop Plain.move rows
  move_simulates log sessions h =
      rw (memory_passes c m rows h.form.lengths h.form.layout, session_of_law c m _ h s)
      (unless_both Simulates (stopped rows) _ _ _ _
      (λ _ _. record { answer = refl; output = refl; next = h })
      (λ e. record { answer = refl; output = refl; next = moved_represents (arrays c m h.form) (move_passed _ _ _ _ _ e) log sessions h }))
