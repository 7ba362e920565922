-- A call that changes neither control nor memory can be taken out of any list: preview, the van's writer, and load.
use mathlib.Core.Path.{◌≡◌, refl}
use mathlib.Core.List.{List, [], ◌∷◌, ◌++◌}
use Rattle.replication.specs.Memory.{Memory}
use Rattle.replication.specs.Call.{Call, run, final}
use Rattle.replication.specs.Calls as Bytes
use Rattle.replication.specs.Calls.{After, after_calls}
use Rattle.replication.specs.declared.control.Control.{Control}
use Rattle.machine.specs.OneCopy.{event, history}

-- a list goes on from control and memory alone, whatever was answered and shown before
pub goes_on : (K : List Call) (r p : After) → r.control ≡ p.control → r.memory ≡ p.memory → history r K ≡ history p K
unfolding history run
goes_on [] r p e f = refl
goes_on (x ∷ K) r p e f = rw (e, f)

leaves_same : (K : List Call) (r p : After) → r.control ≡ p.control → r.memory ≡ p.memory
    → ((after_calls r K).control ≡ (after_calls p K).control) × ((after_calls r K).memory ≡ (after_calls p K).memory)
unfolding run final
leaves_same [] r p e f = (e, f)
leaves_same (x ∷ K) r p e f = rw (e, f) (refl, refl)

-- such a call between H and K: all other calls give the same answers and outputs with it and without it, and the list leaves the same
module _ (x : Call) (unchanging : (c : Control) (m : Memory) → ((Bytes.call c m x).control ≡ c) × ((Bytes.call c m x).memory ≡ m)) (K : List Call) where
  pub call_between : (H : List Call) (r : After) → let left = after_calls r H in
      let there = Bytes.call left.control left.memory x in
      history r (H ++ (x ∷ K)) ≡ history r H ++ (event x there.answer there.output ∷ history left K)
  unfolding history run final
  call_between [] r = let (c, m) = unchanging r.control r.memory in cc (goes_on K (Bytes.call r.control r.memory x) r c m)
  call_between (y ∷ H) r = cc (call_between H (Bytes.call r.control r.memory y))

  pub call_leaves : (H : List Call) (r : After)
      → ((after_calls r (H ++ (x ∷ K))).control ≡ (after_calls r (H ++ K)).control) × ((after_calls r (H ++ (x ∷ K))).memory ≡ (after_calls r (H ++ K)).memory)
  unfolding run final
  call_leaves [] r = let (c, m) = unchanging r.control r.memory in leaves_same K (Bytes.call r.control r.memory x) r c m
  call_leaves (y ∷ H) r = call_leaves H (Bytes.call r.control r.memory y)
