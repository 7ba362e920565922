-- The calls of demand 3's lists, as data: what a caller passes. Lists of them.
use Rattle.std.specs.Prelude.{List, [], ◌∷◌, ℕ}

pub data Call : Type 0 where
  -- session, the operations' bytes
  commit : ℕ → List ℕ → Call
  -- 02, S-1, "a preview of commit": session, the operations' bytes
  preview : ℕ → List ℕ → Call
  -- studio
  send : ℕ → Call
  -- studio
  refresh : ℕ → Call
  -- session, the request's bytes, output
  read : ℕ → List ℕ → List ℕ → Call
  -- session, output
  collect : ℕ → List ℕ → Call
  -- 02, S-4, "the Forward method .. as a second reading call": session, the request's bytes, output
  forward : ℕ → List ℕ → List ℕ → Call
  -- 02, S-6, "a writer at the head end": the transaction's number, output
  write : ℕ → List ℕ → Call
  -- 02, S-7, "a call that moves a session to another studio": session, studio
  move : ℕ → ℕ → Call
  -- 02, S-8, "a load call": nothing but control and memory
  load : Call
  -- 02, S-9, "a retire call": nothing but control and memory
  retire : Call

-- a call of a list, and what it left
pub record Turn (A : Type 0) : Type 0 where
  pub call : Call
  pub left : A

-- "The first call of H is given that memory and control, every later one what the call before it left and handed back, after a refusal or a
-- wait too": a list of calls, for any `does` that says what one call leaves. On bytes, and on the plain machine.
unfoldable pub run : {A : Type 0} → (A → Call → A) → A → List Call → List (Turn A)
run does r [] = []
run does r (x ∷ H) = let left = does r x in record { call = x; left = left } ∷ run does left H

-- what the last call left, or where there is no call, what the first would have been given
unfoldable pub final : {A : Type 0} → A → List (Turn A) → A
final r [] = r
final r (t ∷ ts) = final t.left ts
