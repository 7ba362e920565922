-- Preview: commit's answer with nothing changed. It keeps the layout, and does what the plain machine's preview does.
use mathlib.Core.Path.{◌≡◌, refl}
use mathlib.Core.List.{List}
use Prim.Native.Nat.{ℕ}
use Rattle.carts.specs.Transaction.{Transaction}
use Rattle.replication.specs.Memory.{Memory}
use Rattle.replication.specs.Call as Call
use Rattle.replication.specs.Calls as Bytes
use Rattle.replication.specs.Calls.{after}
use Rattle.replication.specs.declared.control.Control.{Control}
use Rattle.machine.specs.Machine as Plain
use Rattle.machine.specs.Machine.{Session}
use Rattle.refinement.specs.Represents.{OfLayout, Represents, Simulates}
use Rattle.refinement.specs.Lent.{lent}
use Rattle.refinement.proofs.Represented.{machine_of}
use Rattle.refinement.proofs.Commit.{commit_simulates}

module _ (c : Control) (m : Memory) (s : ℕ) (bytes : List ℕ) where
  pub preview_answers : Bytes.call c m (Call.preview s bytes) ≡ after (Bytes.call c m (Call.commit s bytes)).answer c m (lent (Call.preview s bytes))
  unfolding Bytes.call_by Bytes.preview lent
  preview_answers = refl

  pub preview_keeps : OfLayout c m → OfLayout (Bytes.preview c m s bytes).control (Bytes.preview c m s bytes).memory
  unfolding Bytes.preview
  preview_keeps h = h

  pub preview_simulates : (log : List Transaction) (sessions : List Session) → Represents c m (machine_of c log sessions)
      → Simulates (Bytes.preview c m s bytes) (Plain.preview (machine_of c log sessions) s bytes)
  unfolding Bytes.preview Plain.preview
  preview_simulates log sessions h = record { answer = (commit_simulates c m s bytes log sessions h).answer; output = refl; next = h }

pub preview_unchanging : (s : ℕ) (bytes : List ℕ) (c : Control) (m : Memory) → ((Bytes.call c m (Call.preview s bytes)).control ≡ c) × ((Bytes.call c m (Call.preview s bytes)).memory ≡ m)
unfolding Bytes.call_by Bytes.preview
preview_unchanging s bytes c m = (refl, refl)
