-- When a machine goes on from a history, and the changes of the machine after which it still does.
use Prim.Native.Nat.{ℕ, ◌+◌, ◌≤◌, max}
use native.Mathlib.Omega.{arith}
use mathlib.Core.Path.{◌≡◌, sym, ◌∙◌}
use mathlib.Core.Bool.{true}
use mathlib.Core.List.{List, [], ◌∷◌, ◌++◌}
use lib.ListN.{length}
use Rattle.carts.specs.Operation.{act_all}
use Rattle.carts.specs.Transaction.{Transaction, L}
use Rattle.replication.specs.Memory.{session_count}
use Rattle.replication.specs.Request.{Request, is_waiting}
use Rattle.machine.specs.Machine.{Machine, machine, Session, commits, session_of, with_log, with_retired, with_session}
use Rattle.machine.proofs.Sort.{length_snoc}
use Rattle.machine.proofs.Updates.{put, put_case, both_case, each_set}
use Rattle.replication.proofs.DecideLaws.{KnownSession}
use Rattle.machine.proofs.Libraries.{L-before, L-after}

-- the session waits for what its latest read that waited asked for
abbrev pub WaitsFor : Request → Session → Type 0
WaitsFor q x = is_waiting x.waiting ≡ true → q ≡ x.waiting

-- A machine whose history so far has the libraries `copies`, has shown session s the state `floor s`, and in which session s waits for
-- `waited s`. What a session has been shown is never above its number (02, S-7), at whatever studio it is; or it is retired, since a history begins with the
-- retired count already played (S-9).
pub record Follows (m : Machine) (copies : ℕ → List ℕ) (floor : ℕ → ℕ) (waited : ℕ → Request) : Type 0 where
  pub libraries : (k : ℕ) → k ≤ commits m → copies k ≡ L m.log k
  pub floors : (s : ℕ) → 1 ≤ s → floor s ≤ max m.retired (session_of m s).number
  pub waits_for : (s : ℕ) → 1 ≤ s → WaitsFor (waited s) (session_of m s)

module _ (m : Machine) (copies : ℕ → List ℕ) (floor : ℕ → ℕ) (waited : ℕ → Request) (f : Follows m copies floor waited) where
  -- a transaction appended: one library more
  pub appended : (t : Transaction) → let n = commits m in Follows (with_log m (m.log ++ (t ∷ []))) (put copies (n + 1) (act_all (copies n) t)) floor waited
  appended t = record {
    libraries = λ k u.
        let n : ℕ = commits m in
        let v : k ≤ n + 1 = rw length_snoc at u in
        put_case (λ x. x ≡ L (m.log ++ (t ∷ [])) k) copies (n + 1) (act_all (copies n) t) k
        (λ e. rw (e, f.libraries n (omega arith)) (sym (L-after m.log t)))
        (λ e. f.libraries k (omega arith) ∙ sym (L-before m.log t k (omega arith)));
    floors = f.floors;
    waits_for = f.waits_for;
  }

  -- other counts of the studios
  pub other_counts : (sent applied : List ℕ) → Follows (machine m.studios m.log m.retired sent applied m.sessions) copies floor waited
  other_counts sent applied = record { libraries = f.libraries; floors = f.floors; waits_for = f.waits_for }

  -- more retired
  pub more_retired : (n : ℕ) → m.retired ≤ n → Follows (with_retired m n) copies floor waited
  more_retired n u = record { libraries = f.libraries; floors = λ s l. omega (arith, f.floors s l); waits_for = f.waits_for }

  -- what belongs to no session is shown to none
  pub shown_to_none : (v : ℕ) → Follows m copies (put floor 0 v) waited
  shown_to_none v = record {
    libraries = f.libraries;
    floors = λ j l. put_case (λ x. x ≤ max m.retired (session_of m j).number) floor 0 v j (λ e. absurd (omega arith)) (λ e. f.floors j l);
    waits_for = f.waits_for;
  }

  -- session s becomes x: shown the state v, or waiting for q, or neither
  module _ (s : ℕ) (x : Session) (who : KnownSession s (session_of m s).studio) (sixteen : length m.sessions ≡ session_count) where
    floors_kept : floor s ≤ max m.retired x.number → (j : ℕ) → 1 ≤ j → floor j ≤ max m.retired (session_of (with_session m s x) j).number
    floors_kept u = each_set (λ j y. floor j ≤ max m.retired y.number) m.sessions s x _ who.low u f.floors

    waits_kept : WaitsFor (waited s) x → (j : ℕ) → 1 ≤ j → WaitsFor (waited j) (session_of (with_session m s x) j)
    waits_kept w = each_set (λ j y. WaitsFor (waited j) y) m.sessions s x _ who.low w f.waits_for

    pub shown_to_law : (v : ℕ) → v ≤ x.number → WaitsFor (waited s) x → Follows (with_session m s x) copies (put floor s v) waited
    shown_to_law v u w = record {
      libraries = f.libraries;
      floors = λ j l. both_case (λ k y. k ≤ max m.retired y.number) floor v m.sessions x _ s j who.low (omega arith) l (λ e. omega arith) (λ e. f.floors j l);
      waits_for = waits_kept w;
    }

    pub stored_for : (q : Request) → floor s ≤ max m.retired x.number → WaitsFor q x → Follows (with_session m s x) copies floor (put waited s q)
    stored_for q u w = record {
      libraries = f.libraries;
      floors = floors_kept u;
      waits_for = λ j l. both_case WaitsFor waited q m.sessions x _ s j who.low (omega arith) l (λ e. w) (λ e. f.waits_for j l);
    }

    pub left_so : floor s ≤ max m.retired x.number → WaitsFor (waited s) x → Follows (with_session m s x) copies floor waited
    left_so u w = record { libraries = f.libraries; floors = floors_kept u; waits_for = waits_kept w }
