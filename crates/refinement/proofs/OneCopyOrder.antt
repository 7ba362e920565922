-- The one-copy order on bytes, from whatever stands for a state of the plain machine in which each logged operation met its cart; what a list leaves, load accepts.
use mathlib.Core.Path.{◌≡◌, refl, sym, ap, fun_ext, subst, ◌∙◌}
use mathlib.Core.Bool.{true}
use mathlib.Core.List.{List, [], ◌∷◌, ◌++◌}
use Prim.Native.Nat.{ℕ, ◌*◌, ◌-◌, ◌≤◌}
use native.Mathlib.Omega.{arith}
use native.Mathlib.Decide.{dec_le}
use lib.ListN.{length, drop_of_length-le}
use Rattle.carts.specs.Bytes.{zeros}
use Rattle.carts.specs.Transaction.{Transaction}
use Rattle.carts.proofs.ZeroLaws.{length_zeros, part_zeros}
use Rattle.replication.specs.Answer.{done}
use Rattle.replication.specs.Memory.{Memory, copy_at, session_at}
use Rattle.edit_log.specs.Log.{transactions_from}
use Rattle.replication.specs.Log.{log_count}
use Rattle.replication.specs.Request.{Request, nothing, request_of, is_waiting}
use Rattle.replication.specs.Rows.{setup_stop}
use Rattle.replication.specs.Call.{Call, run}
use Rattle.replication.specs.Calls as Bytes
use Rattle.replication.specs.Calls.{After, after, control_of, fresh_memory, after_calls}
use Rattle.replication.specs.declared.control.Control.{Control}
use Rattle.replication.proofs.RowLaws.{unless_case}
use Rattle.machine.specs.Machine as Plain
use Rattle.machine.specs.Machine.{Step, session_of}
use Rattle.machine.specs.Library.{library, empty_library}
use Rattle.machine.specs.OneCopy.{Entry, OneCopy, entries, counted_history, loaded, loaded_request, loaded_library, entries_from, Loadable}
use Rattle.machine.proofs.Follows.{WaitsFor}
use Rattle.machine.proofs.MetLaws.{Met, after_met}
use Rattle.machine.proofs.OneCopyOrder.{one_copy_from}
use Rattle.refinement.specs.Represents.{Simulates}
use Rattle.refinement.proofs.Sessions.{session_of_law, empty_request}
use Rattle.refinement.proofs.Represented.{kept_log}
use Rattle.refinement.proofs.Simulation.{simulates_after, same_counted}
use Rattle.refinement.proofs.Standing.{represents_sound, stands_load}

module _ (r : After) (p : Step) (there : Simulates r p) (met : Met p.next) where
  -- the request loaded for a session is the one that it waits for
  loaded_waits : (none : Request) (s : ℕ) → 1 ≤ s → WaitsFor (loaded_request r.memory none s) (session_of p.next s)
  unfolding loaded_request
  loaded_waits none s l = rw (session_of_law _ _ _ there.next s) (λ w. rw w)

  pub ordered_from : (H : List Call) (none : Request) → (order : List Entry) × OneCopy (loaded_library r.control r.memory) (entries_from r none H) order
  unfolding entries_from loaded_library
  ordered_from H none =
      rw (same_counted H r p there, ← kept_log _ _ _ there.next, there.next.base, ← there.next.retired)
      (one_copy_from p (loaded_request r.memory none) H (represents_sound _ _ _ there.next) met (loaded_waits none))

  -- a restart at any moment
  pub reloads_from : (H : List Call) → let left = after_calls r H in Loadable left.control left.memory
  reloads_from H =
      let last = simulates_after H r p there in
      record {
        arrays = last.next.form.arrays;
        accepted = stands_load _ _ (record { state = _; represents = last.next; met = after_met H p (represents_sound _ _ _ there.next) met });
      }

-- the entries of a list go by the control and memory that it begins with
pub same_entries : (r p : After) → r.control ≡ p.control → r.memory ≡ p.memory → (none : Request) (H : List Call) → entries_from r none H ≡ entries_from p none H
unfolding entries_from counted_history run
same_entries r p e f none [] = rw (e, f)
same_entries r p e f none (x ∷ H) = rw (e, f)

-- a fresh system has no log, and no session waits
no_bytes : request_of [] ≡ nothing
unfolding request_of
no_bytes = refl

fresh_request : (s : ℕ) → request_of (session_at (zeros 1280) s) ≡ nothing
unfolding session_at
fresh_request s = go (dec_le s 16)
  where
    go : Dec (s ≤ 16) → request_of (session_at (zeros 1280) s) ≡ nothing
    go (yes u) = rw (part_zeros 1280 (80 * (s - 1)) 80 (omega arith)) empty_request
    go (no u) =
        let past : length (zeros 1280) ≤ 80 * (s - 1) = let n = length_zeros 1280 in omega arith in
        rw (drop_of_length-le (zeros 1280) past) no_bytes

fresh_entries : (studios : ℕ) (bytes : List ℕ) (none : Request) (H : List Call) → let r = after (done 0) (control_of studios bytes 1 512) fresh_memory [] in
    entries_from r none H ≡ entries 0 (λ s. none) (counted_history r H)
unfolding entries_from loaded loaded_request control_of fresh_memory transactions_from log_count is_waiting
fresh_entries studios bytes none H = ap (λ (w : ℕ → Request). entries 0 w (counted_history (after (done 0) (control_of studios bytes 1 512) fresh_memory []) H)) (fun_ext (λ s. rw (fresh_request s)))

pub setup_entries : (before : Memory) (studios : ℕ) (bytes : List ℕ) → (Bytes.setup before studios bytes).answer ≡ done 0 → (none : Request) (H : List Call)
    → entries_from (Bytes.setup before studios bytes) none H ≡ entries 0 (λ s. none) (counted_history (Bytes.setup before studios bytes) H)
unfolding Bytes.setup
setup_entries before studios bytes accepted none H =
    unless_case (λ (r : After). r.answer ≡ done 0 → entries_from r none H ≡ entries 0 (λ s. none) (counted_history r H)) (setup_stop before studios bytes) _ _
    (λ k e a. let z : ◌≡◌ {A = ℕ} 0 1 = cc in absurd (omega arith)) (λ e a. fresh_entries studios bytes none H) accepted

-- and the library begins empty
fresh_library : (studios : ℕ) (bytes : List ℕ) → loaded_library (control_of studios bytes 1 512) fresh_memory ≡ empty_library
unfolding loaded_library empty_library control_of fresh_memory copy_at
fresh_library studios bytes = ap (library 0) (part_zeros 61440 51200 10240 (omega arith))

pub setup_library : (before : Memory) (studios : ℕ) (bytes : List ℕ) → (Bytes.setup before studios bytes).answer ≡ done 0
    → let r = Bytes.setup before studios bytes in loaded_library r.control r.memory ≡ empty_library
unfolding Bytes.setup
setup_library before studios bytes = unless_case (λ (r : After). r.answer ≡ done 0 → loaded_library r.control r.memory ≡ empty_library) (setup_stop before studios bytes) _ _
    (λ k e a. let z : ◌≡◌ {A = ℕ} 0 1 = cc in absurd (omega arith)) (λ e a. fresh_library studios bytes)
