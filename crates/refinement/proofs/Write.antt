-- The van's writer (02, S-6): it keeps the layout, and does what the plain machine's writer does.
use mathlib.Core.Path.{◌≡◌, refl, sym, ap, ◌∙◌, subst}
use mathlib.Core.Bool.{Bool, true, false}
use mathlib.Core.List.{List, []}
use Prim.Native.Nat.{ℕ, ◌-◌}
use native.Mathlib.Omega.{arith}
use lib.ListN.{length, get_or}
use Rattle.carts.specs.Bytes.{over, within}
use Rattle.carts.specs.Transaction.{Transaction}
use Rattle.carts.proofs.TestLaws.{within_low}
use Rattle.replication.specs.Answer.{done}
use Rattle.replication.specs.Memory.{Memory}
use Rattle.replication.specs.Message.{message_of, message_in}
use Rattle.replication.specs.Rows.{stopped, unless, write_rows, write_stop}
use Rattle.replication.specs.Call as Call
use Rattle.replication.specs.Calls as Bytes
use Rattle.replication.specs.Calls.{After, after, refusal}
use Rattle.replication.specs.declared.control.Control.{Control}
use Rattle.replication.proofs.RowLaws.{memory_passes, unless_case, unless_both}
use Rattle.replication.proofs.MessageLaws.{same_message, not_retired}
use Rattle.machine.specs.Machine as Plain
use Rattle.machine.specs.Machine.{Session, Machine, Step, step}
use Rattle.refinement.specs.Represents.{OfLayout, Represents, Simulates}
use Rattle.refinement.proofs.Represented.{machine_of, log_length, log_at}

pub write_unchanging : (n : ℕ) (out : List ℕ) (c : Control) (m : Memory) → ((Bytes.call c m (Call.write n out)).control ≡ c) × ((Bytes.call c m (Call.write n out)).memory ≡ m)
unfolding Bytes.call_by Bytes.write
write_unchanging n out c m = unless_case (λ (r : After). (r.control ≡ c) × (r.memory ≡ m)) _ _ _ (λ _ _. (refl, refl)) (λ _. (refl, refl))

module _ (c : Control) (m : Memory) (n : ℕ) (out : List ℕ) where
  -- what the writer leaves of bytes and of the machine, by the message
  on_bytes : List ℕ → After
  on_bytes x = unless (stopped (write_rows c.retired c.commits n (length x) (length out))) (refusal c m out) (after (done (length x)) c m (over out 0 (length x) x))

  on_machine : Machine → List ℕ → Step
  on_machine M x = unless (stopped (write_rows c.retired c.commits n (length x) (length out))) (Plain.refusal M out) (step (done (length x)) M (over out 0 (length x) x))

  pub write_keeps : OfLayout c m → OfLayout (Bytes.write c m n out).control (Bytes.write c m n out).memory
  unfolding Bytes.write
  write_keeps h = unless_case (λ (r : After). OfLayout r.control r.memory) _ _ _ (λ _ _. h) (λ _. h)

  -- one message; a number that row 21 or row 17 stops, whatever the messages
  same_message_left : (M : Machine) → Represents c m M → (x : List ℕ) → Simulates (on_bytes x) (on_machine M x)
  unfolding on_bytes on_machine
  same_message_left M h x = unless_both Simulates _ _ _ _ _ (λ _ _. record { answer = refl; output = refl; next = h }) (λ _. record { answer = refl; output = refl; next = h })

  both_retired : (M : Machine) → Represents c m M → (x y : List ℕ) → within 1 c.retired n ≡ true → Simulates (on_bytes x) (on_machine M y)
  unfolding on_bytes on_machine write_rows stopped unless
  both_retired M h x y w = rw w (record { answer = refl; output = refl; next = h })

  both_stopped : (M : Machine) → Represents c m M → (x y : List ℕ) → within 1 c.retired n ≡ false → within 1 c.commits n ≡ false → Simulates (on_bytes x) (on_machine M y)
  unfolding on_bytes on_machine write_rows stopped unless
  both_stopped M h x y u w = rw (u, w) (record { answer = refl; output = refl; next = h })

  same_left : (M : Machine) → Represents c m M → (x y : List ℕ) → (within 1 c.retired n ≡ false → within 1 c.commits n ≡ true → x ≡ y) → Simulates (on_bytes x) (on_machine M y)
  same_left M h x y e = go (within 1 c.retired n) (within 1 c.commits n) refl refl
    where
      go : (a b : Bool) → within 1 c.retired n ≡ a → within 1 c.commits n ≡ b → Simulates (on_bytes x) (on_machine M y)
      go true b u w = both_retired M h x y u
      go false true u w = subst (λ (z : List ℕ). Simulates (on_bytes x) (on_machine M z)) (e u w) (same_message_left M h x)
      go false false u w = both_stopped M h x y u w

  pub write_simulates : (log : List Transaction) (sessions : List Session) → Represents c m (machine_of c log sessions)
      → Simulates (Bytes.write c m n out) (Plain.write (machine_of c log sessions) n out)
  unfolding Bytes.write write_stop Plain.write on_bytes on_machine
  write_simulates log sessions h =
      rw (memory_passes c m (write_rows c.retired c.commits n (length (message_in c m.log n)) (length out)) h.form.lengths h.form.layout, log_length c m _ h)
      (same_left (machine_of c log sessions) h _ _ (λ u w. let l = not_retired c.retired n (within_low 1 c.commits n w) u in
      same_message c m.log n l w ∙ ap (message_of n) (sym (log_at c m _ h (n - 1) (omega arith)))))
