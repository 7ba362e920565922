-- What control and memory stand for: a state of document 01's plain machine.
use Rattle.std.specs.Prelude.{◌≡◌, Bool, true, List, [], ◌∷◌, ◌++◌, ℕ, ◌≤◌, length, eqb}
use Rattle.carts.specs.Bytes.{all, every}
use Rattle.carts.specs.Cart.{cart_size}
use Rattle.carts.specs.Operation.{operation_fields}
use Rattle.carts.specs.Transaction.{Transaction, L, met_from}
use Rattle.replication.specs.Memory.{Memory, Arrays, sixth, session_count, studio_count, lengths_form, copy_at, session_at, sequence_of, nth, studio_of}
use Rattle.replication.specs.Log.{logged}
use Rattle.replication.specs.Request.{request_of}
use Rattle.replication.specs.Layout.{of_layout}
use Rattle.replication.specs.Calls.{After}
use Rattle.replication.specs.declared.control.Control.{Control}
use Rattle.machine.specs.Machine.{session, Machine, kept, session_of, Step}

-- a transaction's operations have the fields of their kinds
unfoldable pub fields_form : Transaction → Bool
fields_form t = all (every (λ op. eqb (length op) cart_size) t ∷ every operation_fields t ∷ [])

-- rows 1 and 2 do not stop a call: the memories have their lengths and are, with control, of the layout
pub record OfLayout (c : Control) (m : Memory) : Type 0 where
  pub arrays : Arrays c
  pub lengths : lengths_form m ≡ true
  pub layout : of_layout c m ≡ true

-- the bytes of control c and memory m stand for the plain machine's state M
pub record Represents (c : Control) (m : Memory) (M : Machine) : Type 0 where
  pub form : OfLayout c m
  pub studios : M.studios ≡ c.studios
  -- the committed transactions: 02, S-9, "keeps retired ones", in front of those in the log
  pub old : List Transaction
  pub many : length old ≡ c.retired
  pub whole : every fields_form old ≡ true
  pub log : M.log ≡ old ++ logged c m.log
  pub retired : M.retired ≡ c.retired
  pub sent : M.sent ≡ c.sent
  pub applied : M.applied ≡ c.applied
  -- each session has its studio from control, its sequence number and waiting read from its 80 bytes
  pub count : length M.sessions ≡ session_count
  pub sessions : (s : ℕ) → 1 ≤ s → s ≤ session_count
      → session_of M s ≡ session (studio_of c s) (sequence_of (session_at m.sessions s)) (request_of (session_at m.sessions s))
  -- "The head end's copy stands for L(commits), studio i's for L(applied of i)."
  pub primary : copy_at m.library 0 ≡ L M.log c.commits
  pub replicas : (i : ℕ) → 1 ≤ i → i ≤ studio_count → copy_at m.library i ≡ L M.log (nth c.applied i)
  -- S-9: "the oldest transaction .. acts on a sixth copy": it stands for L(retired)
  pub base : copy_at m.library sixth ≡ L M.log c.retired

-- 02, S-8: control and memory stand for a state of the plain machine in which each logged operation met its cart in the right state
pub record Stands (c : Control) (m : Memory) : Type 0 where
  pub state : Machine
  pub represents : Represents c m state
  pub met : met_from (L state.log state.retired) (kept state) ≡ true

-- what a call on bytes leaves, and what the same call leaves of the plain machine: one answer, one output, and the bytes stand for the machine
pub record Simulates (r : After) (p : Step) : Type 0 where
  pub answer : r.answer ≡ p.answer
  pub output : r.output ≡ p.output
  pub next : Represents r.control r.memory p.next
