-- A message that an accepted writer wrote is that of a committed transaction; and what of a log of the layout a message can carry.
use mathlib.Core.Path.{◌≡◌, refl, sym, ap, ◌∙◌}
use mathlib.Core.Bool.{true, false, and-false}
use mathlib.Core.List.{List, [], ◌++◌}
use Prim.Native.Nat.{ℕ, ◌+◌, ◌-◌, ◌<◌, ◌≤◌}
use native.Mathlib.Omega.{arith}
use lib.ListN.{length, take, get_or, length-append, get_or-append}
use lib.Seq.{take_at}
use lib.Dec.{leb}
use borrow.Author.Tests.{not-false, ltb-false, le-ltb, lt-leb}
use Rattle.carts.specs.Bytes.{over, within}
use Rattle.carts.specs.Transaction.{Transaction}
use Rattle.carts.proofs.TestLaws.{or_false_both, within_low, within_high, within_of}
use Rattle.replication.specs.Answer.{refused, done}
use Rattle.replication.specs.Memory.{Memory}
use Rattle.replication.specs.Log.{log_count, logged}
use Rattle.edit_log.specs.Log.{walk}
use Rattle.replication.specs.Message.{message_of, message_in}
use Rattle.replication.specs.Rows.{stopped, unless, write_rows, write_stop}
use Rattle.replication.specs.Calls as Bytes
use Rattle.replication.specs.Calls.{After, after}
use Rattle.replication.specs.declared.control.Control.{Control}
use Rattle.replication.proofs.RowLaws.{memory_passes, unless_case, passed}
use Rattle.replication.proofs.DecideLaws.{accepted}
use Rattle.replication.proofs.Formed.{Formed, retired_known}
use Rattle.replication.proofs.LogLaws.{transaction_length, transaction_operations}
use Rattle.edit_log.proofs.TransactionLaws.{length_transactions, length_handed_in, transactions_at, handed_operations}
use Rattle.refinement.specs.Represents.{OfLayout}
use Rattle.replication.proofs.MessageLaws.{same_message, not_retired}
use Rattle.refinement.proofs.Refused.{not_done}
use Rattle.refinement.proofs.Represented.{get_d_after}
use Rattle.delivery.specs.Delivery.{Message, Written}
use Rattle.delivery.proofs.Messages.{Sendable, length_message}
use Rattle.delivery.proofs.Received.{Sent}
use Rattle.delivery.proofs.Grown.{Whole}

-- a log of the layout: each of its transactions
pub log_sendable : (c : Control) (m : Memory) → Formed c m → (j : ℕ) → j < length (logged c m.log) → Sendable (get_or (logged c m.log) j [])
unfolding log_count
log_sendable c m f j h =
    let n = length_transactions (c.commits - c.retired) m.log c.oldest in
    let l : c.retired + j < c.commits = omega arith in
    let e : c.retired + j - c.retired ≡ j = omega arith in
    let few = rw e at (transaction_length c m f (c.retired + j) (omega arith) l) in
    let (sizes, forms) = handed_operations _ (rw e at (transaction_operations c m f (c.retired + j) (omega arith) l)) in
    let size = length_handed_in m.log (walk j m.log c.oldest) in
    rw (transactions_at (c.commits - c.retired) m.log c.oldest j (omega arith)) (record { low = omega arith; high = omega arith; sizes = sizes; forms = forms })

-- what an accepted writer knows, and leaves: the number is in the log, and the transaction's message is at output's start
module _ (c : Control) (m : Memory) (n : ℕ) (out : List ℕ) where
  abbrev message : List ℕ
  message = message_in c m.log n

  abbrev pub written : After
  written = after (done (length message)) c m (over out 0 (length message) message)

  pub record Accepted : Type 0 where
    pub kept : within 1 c.retired n ≡ false
    pub known : within 1 c.commits n ≡ true
    pub room : length message ≤ length out
    pub left : Bytes.write c m n out ≡ written

  abbrev Wrote : After → Type 0
  Wrote r = (size : ℕ) → r.answer ≡ done size → (within 1 c.retired n ≡ false) × (within 1 c.commits n ≡ true) × (length message ≤ length out) × (r ≡ written)

  wrote : Wrote (Bytes.write c m n out)
  unfolding Bytes.write write_stop write_rows
  wrote = unless_case Wrote _ _ _ (λ k e size a. absurd (not_done _ (sym a))) (λ e size a.
      let first = passed 20 _ _ (accepted c m _ e).1 in
      let both = or_false_both _ _ (passed 16 _ [] first.1).0 in
      (first.0, not-false _ both.0, ltb-false _ _ both.1, refl))

  pub accepted_by : (size : ℕ) → (Bytes.write c m n out).answer ≡ done size → Accepted
  accepted_by size a = let w = wrote size a in record { kept = w.0; known = w.1; room = w.2; left = w.3 }

  -- a writer to whom nothing is wanting is accepted
  pub writes : OfLayout c m → within 1 c.retired n ≡ false → within 1 c.commits n ≡ true → length message ≤ length out → Bytes.write c m n out ≡ written
  unfolding Bytes.write write_stop write_rows unless stopped
  writes h kept known room = rw (memory_passes c m (write_rows c.retired c.commits n (length message) (length out)) h.lengths h.layout, kept, known, le-ltb (length out) (length message) room)

  -- and one for a retired number is refused with 21, whatever output is
  pub refused_21 : OfLayout c m → within 1 c.retired n ≡ true → (Bytes.write c m n out).answer ≡ refused 21
  unfolding Bytes.write write_stop write_rows unless stopped
  refused_21 h gone = rw (memory_passes c m (write_rows c.retired c.commits n (length message) (length out)) h.lengths h.layout, gone)

-- a number that is not retired
pub after_retired : (retired n : ℕ) → retired < n → within 1 retired n ≡ false
unfolding within
after_retired retired n l = rw (lt-leb n retired l) (and-false (leb 1 n))

-- there are as many as commits
pub whole_length : (c : Control) (m : Memory) → Formed c m → (all : List Transaction) → Whole c m.log all → length all ≡ c.commits
unfolding log_count
whole_length c m f all h =
    let a = length-append h.gone (logged c m.log) in
    let l = length_transactions (c.commits - c.retired) m.log c.oldest in
    let r = retired_known c m f in
    ap length h.same ∙ (let e : length (h.gone ++ logged c m.log) ≡ c.commits = omega (arith, h.many) in e)

-- the message of a number that is not retired, among all committed transactions
module _ (c : Control) (m : Memory) (f : Formed c m) (all : List Transaction) (h : Whole c m.log all) (n : ℕ) (kept : within 1 c.retired n ≡ false) (known : within 1 c.commits n ≡ true) where
  low : 1 ≤ n
  low = within_low 1 c.commits n known

  later : c.retired < n
  later = not_retired c.retired n low kept

  pub there : get_or all (n - 1) [] ≡ get_or (logged c m.log) (n - 1 - c.retired) []
  there = ap (λ (z : List Transaction). get_or z (n - 1) []) h.same ∙ get_d_after h.gone (logged c m.log) (n - 1) c.retired h.many (let l = later in omega arith)

  pub message_of_law : message_in c m.log n ≡ message_of n (get_or all (n - 1) [])
  message_of_law = same_message c m.log n later known ∙ ap (message_of n) (sym there)

  pub sendable : Sendable (get_or all (n - 1) [])
  unfolding log_count
  sendable = rw there (log_sendable c m f (n - 1 - c.retired) (let l = later in let k = within_high 1 c.commits n known in let e = length_transactions (c.commits - c.retired) m.log c.oldest in omega arith))

pub sent_of : (c : Control) (m : Memory) → Formed c m → (all : List Transaction) → Whole c m.log all → (x : Message) → Written c m x → Sent all x
sent_of c m f all h x w =
    let a = accepted_by c m x.number w.lent w.size w.answer in
    let x-message = message_in c m.log x.number in
    let answer : done (length x-message) ≡ done w.size = sym (ap (λ (r : After). r.answer) a.left) ∙ w.answer in
    let size : length x-message ≡ w.size = cc in (
      within_low 1 c.commits x.number a.known,
      rw (whole_length c m f all h) (within_high 1 c.commits x.number a.known),
      w.bytes ∙ ap (λ (r : After). take w.size r.output) a.left ∙ take_at x-message _ w.size size ∙ message_of_law c m f all h x.number a.kept a.known,
      sendable c m f all h x.number a.kept a.known,
    )

-- more transactions after it change nothing of that
pub sent_later : (all new : List Transaction) (x : Message) → Sent all x → Sent (all ++ new) x
sent_later all new x s =
    let l = length-append all new in
    let low = s.0 in
    let high = s.1 in
    let same : get_or (all ++ new) (x.number - 1) [] ≡ get_or all (x.number - 1) [] = get_or-append all new [] (x.number - 1) (omega arith) in
    (s.0, omega arith, s.2 ∙ ap (message_of x.number) (sym same), rw same s.3)

-- a later log that still has the transaction gives the same message for it
pub message_later : (c d : Control) (m p : Memory) → Formed c m → Formed d p → (all new : List Transaction) → Whole c m.log all → Whole d p.log (all ++ new) → (n : ℕ)
    → within 1 c.retired n ≡ false → within 1 c.commits n ≡ true → within 1 d.retired n ≡ false → (within 1 d.commits n ≡ true) × (message_in d p.log n ≡ message_in c m.log n)
message_later c d m p f g all new h k n kept known still =
    let low = within_low 1 c.commits n known in
    let high = within_high 1 c.commits n known in
    let old = whole_length c m f all h in
    let more = length-append all new in
    let count = whole_length d p g (all ++ new) k in
    let there = within_of 1 d.commits n low (omega arith) in (
      there,
      message_of_law d p g (all ++ new) k n still there ∙ ap (message_of n) (get_or-append all new [] (n - 1) (omega arith)) ∙ sym (message_of_law c m f all h n kept known),
    )

-- an output of 644 bytes is long enough for every transaction
pub message_most : (c : Control) (m : Memory) → Formed c m → (all : List Transaction) → Whole c m.log all → (n : ℕ) → within 1 c.retired n ≡ false → within 1 c.commits n ≡ true
    → length (message_in c m.log n) ≤ 644
message_most c m f all h n kept known =
    let s = sendable c m f all h n kept known in
    let size = ap length (message_of_law c m f all h n kept known) ∙ length_message n _ s in
    omega (arith, size, s.high)
