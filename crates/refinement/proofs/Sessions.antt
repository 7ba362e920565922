-- Sessions: their bytes with another sequence number, and one of them replaced in memory and in the plain machine.
use mathlib.Core.Path.{◌≡◌, refl, ap, ◌∙◌}
use mathlib.Core.Logic.{◌≢◌}
use mathlib.Core.Bool.{Bool, true, false, cond, false≢true}
use mathlib.Core.List.{List, [], ◌∷◌}
use Prim.Native.Nat.{ℕ, zero, suc, ◌+◌, ◌*◌, ◌-◌, ◌≤◌, ◌/◌, ◌%◌}
use native.Mathlib.Omega.{arith}
use native.Mathlib.Decide.{ℕ_discrete, dec_le}
use borrow.Author.Tests.{leb-true, le-leb, eqb-true, eq-eqb, ne_eqb}
use lib.Dec.{leb, eqb}
use lib.ListN.{length, get_or, set, length-set, get_or-eq_default, drop_of_length-le}
use lib.Seq.{get_or-set_same, get_or-set_other}
use Rattle.carts.specs.Bytes.{zeros, part, byte, u16, u16_bytes, all, every, all_zero}
use Rattle.carts.specs.Transaction.{Transaction}
use Rattle.carts.proofs.TestLaws.{all_at, all_set, all_cons, all_nil}
use Rattle.carts.proofs.PartLaws.{length_over}
use Rattle.carts.proofs.ZeroLaws.{zeros_of, zero_part}
use Rattle.carts.proofs.FieldLaws.{bytes, by_fields}
use Rattle.carts.proofs.CellLaws.{length_cell, length_cells, cell_same, cell_other}
use Rattle.replication.specs.Memory.{Memory, Arrays, session_at, with_session, sequence_of, with_sequence, with_number, studio_of}
use Rattle.replication.specs.Request.{nothing, numbers_in, request_of, numbers_form, request_fields, request_form}
use Rattle.replication.specs.Layout.{waiting_form, session_form, session_form_of}
use Rattle.replication.specs.Calls.{committed, with_sessions}
use Rattle.replication.specs.declared.control.Control.{Control}
use Rattle.replication.proofs.DecideLaws.{KnownSession}
use Rattle.replication.proofs.Formed.{SessionsFormed, Formed}
use Rattle.machine.specs.Machine.{Session, session, Machine, session_of}
use Rattle.refinement.specs.Represents.{Represents}
use Rattle.refinement.proofs.Represented.{machine_of}
use Rattle.refinement.proofs.Arrays.{formed, of_layout_law}

-- 80 bytes of a session in use, but for their sequence number
pub record SessionBytes (x : List ℕ) : Type 0 where
  pub size : length x ≡ 80
  pub zero : all_zero (part x 4 12) ≡ true
  pub form : waiting_form x ≡ true

-- another sequence number
module _ (n : ℕ) (x : List ℕ) (l : 16 ≤ length x) where
  pub sequence_set : sequence_of (with_sequence n x) ≡ n
  unfolding sequence_of with_sequence u16 u16_bytes
  sequence_set = by_fields (λ x. sequence_of (with_sequence n x) ≡ n) 0 (λ h t l. omega arith) x l

  pub request_kept : request_of (with_sequence n x) ≡ request_of x
  unfolding with_sequence u16_bytes request_of numbers_in
  request_kept = by_fields (λ x. request_of (with_sequence n x) ≡ request_of x) 0 (λ h t l. refl) x l

  -- bytes 2–3 alone are replaced
  pub sequence_again : (k : ℕ) → with_sequence k (with_sequence n x) ≡ with_sequence k x
  unfolding with_sequence u16_bytes
  sequence_again k = by_fields (λ x. with_sequence k (with_sequence n x) ≡ with_sequence k x) 0 (λ h t l. refl) x l

  waiting_kept : waiting_form (with_sequence n x) ≡ waiting_form x
  unfolding with_sequence u16_bytes waiting_form request_fields numbers_form numbers_in
  waiting_kept = by_fields (λ x. waiting_form (with_sequence n x) ≡ waiting_form x) 0 (λ h t l. refl) x l

  zeros_kept : part (with_sequence n x) 4 12 ≡ part x 4 12
  unfolding with_sequence u16_bytes
  zeros_kept = by_fields (λ x. part (with_sequence n x) 4 12 ≡ part x 4 12) 0 (λ h t l. refl) x l

length_with_sequence : (n : ℕ) (x : List ℕ) → length x ≡ 80 → length (with_sequence n x) ≡ 80
unfolding with_sequence u16_bytes
length_with_sequence n x e = length_over x 2 2 (n % 256 ∷ n / 256 ∷ []) (omega arith) refl ∙ e

-- the form of a session that is in use
tests : Control → List ℕ → List Bool
tests c x = leb (sequence_of x) c.commits ∷ all_zero (part x 4 12) ∷ waiting_form x ∷ []

module _ (c : Control) (s : ℕ) (used : studio_of c s ≢ 0) (x : List ℕ) where
  session_bytes : length x ≡ 80 → session_form c s x ≡ true → SessionBytes x
  unfolding session_form session_form_of tests
  session_bytes l f =
      let g : all (tests c x) ≡ true = rw (ne_eqb (studio_of c s) 0 used) at f in
      record { size = l; zero = all_at 1 (tests c x) g; form = all_at 2 (tests c x) g }

  sequence_known : session_form c s x ≡ true → sequence_of x ≤ c.commits
  unfolding session_form session_form_of tests
  sequence_known f =
      let g : all (tests c x) ≡ true = rw (ne_eqb (studio_of c s) 0 used) at f in
      leb-true _ _ (all_at 0 (tests c x) g)

  session_form_law : (n : ℕ) → n ≤ c.commits → SessionBytes x → session_form c s (with_sequence n x) ≡ true
  unfolding session_form session_form_of
  session_form_law n l b =
      let k = b.size in
      rw (ne_eqb (studio_of c s) 0 used, sequence_set n x (omega arith), zeros_kept n x (omega arith), waiting_kept n x (omega arith))
      (all_cons _ _ (le-leb _ _ l) (all_cons _ _ b.zero (all_cons _ _ b.form all_nil)))

-- one commit more
pub session_more : (c : Control) (k next s : ℕ) (x : List ℕ) → session_form c s x ≡ true → session_form (committed c k next) s x ≡ true
unfolding session_form session_form_of committed studio_of tests
session_more c k next s x f = go (eqb (studio_of c s) 0) refl
  where
    go : (b : Bool) → eqb (studio_of c s) 0 ≡ b → cond (eqb (studio_of c s) 0) (all_zero x) (all (set (tests c x) 0 (leb (sequence_of x) (c.commits + 1)))) ≡ true
    go true e = rw e (rw e at f)
    go false e =
        let h : all (tests c x) ≡ true = rw e at f in
        let l : sequence_of x ≤ c.commits = leb-true _ _ (all_at 0 (tests c x) h) in
        rw e (all_set 0 (tests c x) _ h (le-leb (sequence_of x) (c.commits + 1) (omega arith)))

-- a request as handed in, and the bytes of a session that waits for nothing
request_kind : (s : List ℕ) → request_fields s ≡ true → byte s 0 ≢ 0
unfolding request_fields
request_kind s h e = false≢true (rw e at h)

pub request_bytes : (request : List ℕ) → request_form request ≡ true → SessionBytes request
unfolding request_form waiting_form
request_bytes q h =
    let l : length q ≡ 80 = eqb-true _ _ (all_at 0 (eqb (length q) 80 ∷ request_fields q ∷ all_zero (part q 2 14) ∷ []) h) in
    let f : request_fields q ≡ true = all_at 1 (eqb (length q) 80 ∷ request_fields q ∷ all_zero (part q 2 14) ∷ []) h in
    let z : all_zero (part q 2 14) ≡ true = all_at 2 (eqb (length q) 80 ∷ request_fields q ∷ all_zero (part q 2 14) ∷ []) h in
    record {
      size = l;
      zero = by_fields (λ q. all_zero (part q 2 14) ≡ true → all_zero (part q 4 12) ≡ true) 0
          (λ h t _ z. zero_part (part (bytes h t) 2 14) 2 12 z) q (omega arith) z;
      form = rw (ne_eqb (byte q 0) 0 (request_kind q f)) f;
    }

pub empty_bytes : SessionBytes (zeros 80)
unfolding zeros waiting_form all all_zero every
empty_bytes = record { size = refl; zero = refl; form = refl }

pub empty_request : request_of (zeros 80) ≡ nothing
unfolding zeros request_of
empty_request = refl

pub empty_sequence : sequence_of (zeros 80) ≡ 0
unfolding zeros sequence_of u16
empty_sequence = refl

-- session s as the bytes show it
abbrev pub shown : Control → List ℕ → ℕ → Session
shown c memory s = session (studio_of c s) (sequence_of (session_at memory s)) (request_of (session_at memory s))

-- the bytes of session s, in use
module _ (c : Control) (memory : List ℕ) (f : SessionsFormed c memory) (s : ℕ) (w : KnownSession s (studio_of c s)) where
  pub own_bytes : SessionBytes (session_at memory s)
  unfolding session_at
  own_bytes = session_bytes c s w.used _ (length_cell 16 memory f.size s w.low w.high) (f.forms s w.low w.high)

  pub own_sequence : sequence_of (session_at memory s) ≤ c.commits
  own_sequence = sequence_known c s w.used _ (f.forms s w.low w.high)

-- the bytes of session s, not in use
pub unused_bytes : (c : Control) (memory : List ℕ) → SessionsFormed c memory → (s : ℕ) → 1 ≤ s → s ≤ 16 → studio_of c s ≡ 0 → session_at memory s ≡ zeros 80
unfolding session_at session_form session_form_of
unused_bytes c memory f s low high e =
    let size = length_cell 16 memory f.size s low high in
    zeros_of _ (rw (eq-eqb (studio_of c s) 0 e) at (f.forms s low high)) ∙ ap zeros size

-- session s replaced
module _ (c : Control) (memory : List ℕ) (k : length memory ≡ 1280) (s : ℕ) (w : KnownSession s (studio_of c s)) (n : ℕ) (x : List ℕ) (b : SessionBytes x) where
  pub same : session_at (with_session memory s (with_sequence n x)) s ≡ with_sequence n x
  unfolding session_at with_session
  same = cell_same 16 memory k s w.low w.high (with_sequence n x) (length_with_sequence n x b.size)

  pub other : (q : ℕ) → 1 ≤ q → q ≢ s → session_at (with_session memory s (with_sequence n x)) q ≡ session_at memory q
  unfolding session_at with_session
  other = cell_other 16 memory k s w.low w.high (with_sequence n x) (length_with_sequence n x b.size)

  pub length_sessions : length (with_session memory s (with_sequence n x)) ≡ 1280
  unfolding with_session
  length_sessions = length_cells 16 memory k s w.low w.high (with_sequence n x) (length_with_sequence n x b.size)

  -- the sessions keep their form
  pub sessions_form : n ≤ c.commits → ((q : ℕ) → 1 ≤ q → q ≤ 16 → session_form c q (session_at memory q) ≡ true)
      → (q : ℕ) → 1 ≤ q → q ≤ 16 → session_form c q (session_at (with_session memory s (with_sequence n x)) q) ≡ true
  sessions_form l f q q1 q16 = go (ℕ_discrete q s)
    where
      go : Dec (q ≡ s) → session_form c q (session_at (with_session memory s (with_sequence n x)) q) ≡ true
      go (yes e) = rw (e, same) (session_form_law c s w.used x n l b)
      go (no ne) = rw (other q q1 ne) (f q q1 q16)

  -- and the machine has them
  pub sessions_shown : (ss : List Session) (d : Session) → length ss ≡ 16
      → ((q : ℕ) → 1 ≤ q → q ≤ 16 → get_or ss (q - 1) d ≡ shown c memory q)
      → (q : ℕ) → 1 ≤ q → q ≤ 16
      → get_or (set ss (s - 1) (session (studio_of c s) n (request_of x))) (q - 1) d ≡ shown c (with_session memory s (with_sequence n x)) q
  sessions_shown ss d l f q q1 q16 = go (ℕ_discrete q s)
    where
      v : Session
      v = session (studio_of c s) n (request_of x)

      go : Dec (q ≡ s) → get_or (set ss (s - 1) v) (q - 1) d ≡ shown c (with_session memory s (with_sequence n x)) q
      go (yes e) =
          let z = b.size in
          rw (e, same, sequence_set n x (omega arith), request_kept n x (omega arith))
          (get_or-set_same ss (s - 1) v d (let a = w.low in let h = w.high in omega arith))
      go (no ne) = rw (other q q1 ne) (get_or-set_other ss (s - 1) (q - 1) v d (let a = w.low in omega arith) ∙ f q q1 q16)

-- the session that a call names, whatever its number
pub session_of_law : (c : Control) (m : Memory) (M : Machine) → Represents c m M → (s : ℕ)
    → session_of M s ≡ shown c m.sessions s
unfolding studio_of session_at sequence_of request_of u16
session_of_law c m M h zero = h.sessions 1 (omega arith) (omega arith)
session_of_law c m M h (suc s) = go (dec_le (suc s) 16)
  where
    go : Dec (suc s ≤ 16) → session_of M (suc s) ≡ shown c m.sessions (suc s)
    go (yes l) = h.sessions (suc s) (omega arith) l
    go (no g) =
        let f = formed c m h.form in
        let a : length M.sessions ≤ suc s - 1 = let n = h.count in omega arith in
        let b : length c.session_studios ≤ suc s - 1 = let n = h.form.arrays.session_studios in omega arith in
        let d : length m.sessions ≤ 80 * (suc s - 1) = let n = f.sessions.size in omega arith in
        rw (get_or-eq_default M.sessions (session 0 0 nothing) a, get_or-eq_default c.session_studios 0 b, drop_of_length-le m.sessions d)

-- a session in use after "the session's number becomes n"
pub number_set : (c : Control) (m : Memory) → Formed c m → (s : ℕ) → KnownSession s (studio_of c s) → (n : ℕ) → sequence_of (session_at (with_number m.sessions s n) s) ≡ n
number_set c m f s w n =
    let own = own_bytes c m.sessions f.sessions s w in
    let size = own.size in
    rw (same c m.sessions f.sessions.size s w n _ own) (sequence_set n _ (omega arith))

-- memory with other bytes of session s
abbrev pub with : Memory → ℕ → ℕ → List ℕ → Memory
with m s n x = with_sessions m (with_session m.sessions s (with_sequence n x))

-- it keeps the layout, and stands for the machine with that session
module _ (c : Control) (m : Memory) (s : ℕ) (w : KnownSession s (studio_of c s)) (a : Arrays c) (f : Formed c m) (n : ℕ) (x : List ℕ) (b : SessionBytes x)
    (l : n ≤ c.commits) where
  pub session_formed : Formed c (with m s n x)
  session_formed = record {
    control = f.control;
    library = f.library;
    log = f.log;
    sessions = record {
      size = length_sessions c m.sessions f.sessions.size s w n x b;
      forms = sessions_form c m.sessions f.sessions.size s w n x b l f.sessions.forms;
    };
    counts = f.counts;
  }

  pub session_represents : (log : List Transaction) (sessions : List Session) → Represents c m (machine_of c log sessions)
      → Represents c (with m s n x) (machine_of c log (set sessions (s - 1) (session (studio_of c s) n (request_of x))))
  session_represents log sessions h = record {
    form = of_layout_law _ _ a session_formed;
    studios = refl;
    old = h.old;
    many = h.many;
    whole = h.whole;
    log = h.log;
    retired = refl;
    sent = refl;
    applied = refl;
    count = length-set sessions (s - 1) _ ∙ h.count;
    sessions = sessions_shown c m.sessions f.sessions.size s w n x b sessions _ h.count h.sessions;
    primary = h.primary;
    replicas = h.replicas;
    base = h.base;
  }
