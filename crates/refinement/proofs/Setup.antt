-- Setup: it does what the plain machine's setup does. What fresh memory is is used here only.
use mathlib.Core.Path.{◌≡◌, refl, sym, ap, ◌∙◌}
use mathlib.Core.Bool.{Bool, true, false, cond, not}
use mathlib.Core.List.{List, []}
use Prim.Native.Nat.{ℕ, ◌*◌, ◌-◌, ◌≤◌}
use native.Mathlib.Omega.{arith}
use borrow.Author.Tests.{le-leb}
use lib.Dec.{leb, eqb}
use lib.ListN.{length-map, get_or-map}
use Rattle.carts.specs.Bytes.{zeros, every}
use Rattle.carts.proofs.TestLaws.{by_cond, all_cons, all_nil}
use Rattle.carts.proofs.ZeroLaws.{length_zeros, zero_zeros, part_zeros, zeros_at}
use Rattle.carts.proofs.KeepLaws.{copy_empty}
use Rattle.replication.specs.Answer.{done}
use Rattle.replication.specs.Memory.{Memory, Arrays, lengths_form, copy_at, session_at, sequence_of, studio_of}
use Rattle.replication.specs.Log.{log_count}
use Rattle.edit_log.specs.Log.{transactions_from}
use Rattle.replication.specs.Request.{nothing, request_of}
use Rattle.replication.specs.Layout.{replica_form, sixth_form, session_form, session_form_of, counts_form}
use Rattle.replication.specs.Rows.{stopped, lengths_row, setup_rows, setup_stop}
use Rattle.replication.specs.Calls as Bytes
use Rattle.replication.specs.Calls.{After, control_of, fresh_memory}
use Rattle.replication.specs.declared.control.Control.{Control}
use Rattle.edit_log.proofs.UpFromLaws.{fresh_size, fresh_chains}
use Rattle.replication.proofs.Formed.{Formed}
use Rattle.replication.proofs.RowLaws.{row_passes, unless_case, unless_both}
use Rattle.replication.proofs.Accepted.{SetupAccepted, setup_passed}
use Rattle.machine.specs.Machine as Plain
use Rattle.machine.specs.Machine.{Step, session, fresh}
use Rattle.refinement.specs.Represents.{Represents, Simulates}
use Rattle.refinement.proofs.Transactions.{L-nil}
use Rattle.refinement.proofs.Sessions.{empty_bytes, empty_request, empty_sequence}
use Rattle.refinement.proofs.Arrays.{of_layout_law}

-- copies, carts and sessions of zeros
zeros_copy_at : (i : ℕ) → i ≤ 5 → copy_at (zeros 61440) i ≡ zeros 10240
unfolding copy_at
zeros_copy_at i l = part_zeros 61440 (10240 * i) 10240 (omega arith)

zeros_session_at : (s : ℕ) → 1 ≤ s → s ≤ 16 → session_at (zeros 1280) s ≡ zeros 80
unfolding session_at
zeros_session_at s a b = part_zeros 1280 (80 * (s - 1)) 80 (omega arith)

both : (b x y : Bool) → x ≡ true → y ≡ true → cond b x y ≡ true
both b x y h g = by_cond (λ z. z ≡ true) b x y (λ _. h) (λ _. g)

zeros_replica : (studios i : ℕ) → replica_form studios i (zeros 10240) ≡ true
unfolding replica_form
zeros_replica studios i = both (leb i studios) _ _ (copy_empty (zeros 10240) (zero_zeros 10240)) (zero_zeros 10240)

zeros_shown : (i : ℕ) → session i (sequence_of (zeros 80)) (request_of (zeros 80)) ≡ session i 0 nothing
zeros_shown i = rw (empty_sequence, empty_request)

zeros_counts : (studios : ℕ) (bytes : List ℕ) (i : ℕ) → counts_form (control_of studios bytes 1 512) i ≡ true
unfolding counts_form control_of
zeros_counts studios bytes i =
    rw (zeros_at 4 (i - 1))
    (both (leb i studios) _ _ (all_cons _ _ refl (all_cons _ _ refl (all_cons _ _ refl (all_cons _ _ refl all_nil)))) (all_cons _ _ refl (all_cons _ _ refl all_nil)))

zeros_session : (c : Control) (s : ℕ) → session_form c s (zeros 80) ≡ true
unfolding session_form session_form_of
zeros_session c s =
    both (eqb (studio_of c s) 0) _ _ (zero_zeros 80) (all_cons _ _ sequence (all_cons _ _ empty_bytes.zero (all_cons _ _ empty_bytes.form all_nil)))
  where
    sequence : leb (sequence_of (zeros 80)) c.commits ≡ true
    sequence = rw empty_sequence (le-leb 0 c.commits (omega arith))

module _ (before : Memory) (studios : ℕ) (bytes : List ℕ) (p : SetupAccepted before studios bytes) where
  fresh_arrays : Arrays (control_of studios bytes 1 512)
  unfolding control_of
  fresh_arrays = record { session_studios = p.count; sent = length_zeros 4; applied = length_zeros 4 }

  fresh_formed : Formed (control_of studios bytes 1 512) fresh_memory
  unfolding control_of fresh_memory log_count sixth_form
  fresh_formed = record {
    control = record { studios = p.few; places = p.places; few = omega arith };
    library = record { size = length_zeros 61440; copies = copies; sixth = ap (sixth_form 0) (zeros_copy_at 5 (omega arith)) ∙ zero_zeros 10240 };
    log = record { size = fresh_size; chains = fresh_chains };
    sessions = record { size = length_zeros 1280; forms = λ s a b. ap (session_form _ s) (zeros_session_at s a b) ∙ zeros_session _ s };
    counts = λ i a b. zeros_counts studios bytes i;
  }
    where
      copies : (i : ℕ) → i ≤ 4 → replica_form studios i (copy_at (zeros 61440) i) ≡ true
      copies i l = ap (replica_form studios i) (zeros_copy_at i (omega arith)) ∙ zeros_replica studios i

  fresh_represents : Represents (control_of studios bytes 1 512) fresh_memory (fresh studios bytes)
  unfolding control_of fresh_memory fresh transactions_from log_count studio_of every
  fresh_represents = record {
    form = of_layout_law _ _ fresh_arrays fresh_formed;
    studios = refl;
    old = [];
    many = refl;
    whole = refl;
    log = refl;
    retired = refl;
    sent = refl;
    applied = refl;
    count = length-map bytes (λ i. session i 0 nothing) ∙ p.count;
    sessions = λ s a b. get_or-map (λ i. session i 0 nothing) bytes (s - 1) 0 ∙ sym (zeros_shown _)
        ∙ ap (λ (x : List ℕ). session (studio_of (control_of studios bytes 1 512) s) (sequence_of x) (request_of x)) (sym (zeros_session_at s a b));
    primary = zeros_copy_at 0 (omega arith) ∙ sym (L-nil 0);
    replicas = λ i a b. zeros_copy_at i (omega arith) ∙ sym (L-nil _);
    base = zeros_copy_at 5 (omega arith) ∙ sym (L-nil 0);
  }

-- setup on bytes and on the plain machine, where the memories have their lengths: one answer, and accepted, one state
abbrev Agrees : After → Step → Type 0
Agrees r p = (r.answer ≡ p.answer) × (r.answer ≡ done 0 → Simulates r p)

module _ (before : Memory) (studios : ℕ) (bytes : List ℕ) where
  setup_agrees : lengths_form before ≡ true → Agrees (Bytes.setup before studios bytes) (Plain.setup studios bytes)
  unfolding Bytes.setup setup_stop Plain.setup lengths_row
  setup_agrees lengths =
      let right : not (lengths_form before) ≡ false = rw lengths in
      let same = row_passes 1 (not (lengths_form before)) (setup_rows studios bytes) right in
      rw same
      (unless_both Agrees (stopped (setup_rows studios bytes)) _ _ _ _
      (λ k _. (refl, λ e. let z : ◌≡◌ {A = ℕ} 0 1 = cc in absurd (omega arith)))
      (λ e. (refl, λ _. record { answer = refl; output = refl; next = fresh_represents before studios bytes (setup_passed before studios bytes (same ∙ e)) })))

  pub setup_answer_law : lengths_form before ≡ true → (Bytes.setup before studios bytes).answer ≡ (Plain.setup studios bytes).answer
  setup_answer_law lengths = (setup_agrees lengths).0

  -- row 1 lets an accepted setup pass
  accepted_lengths : (Bytes.setup before studios bytes).answer ≡ done 0 → lengths_form before ≡ true
  unfolding Bytes.setup
  accepted_lengths =
      unless_case (λ (r : After). r.answer ≡ done 0 → lengths_form before ≡ true) (setup_stop before studios bytes) _ _
      (λ k _ e. let z : ◌≡◌ {A = ℕ} 0 1 = cc in absurd (omega arith))
      (λ e _. (setup_passed before studios bytes e).lengths)

  pub setup_simulates : (Bytes.setup before studios bytes).answer ≡ done 0 → Simulates (Bytes.setup before studios bytes) (Plain.setup studios bytes)
  setup_simulates accepted = (setup_agrees (accepted_lengths accepted)).1 accepted
