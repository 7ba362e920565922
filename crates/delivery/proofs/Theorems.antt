-- THEOREMS about the van, in the words of document 02, S-6. H is any list of the calls of `Call`, D any list of messages.
use mathlib.Core.Path.{◌≡◌, refl, sym, ap, ◌∙◌, subst}
use mathlib.Core.List.{List, [], ◌∷◌, ◌++◌, append_assoc, append-nil, Memᴰ, Sublistᴰ}
use Prim.Native.Nat.{ℕ, zero, suc, ◌+◌, ◌<◌, ◌≤◌}
use native.Mathlib.Omega.{arith}
use lib.ListN.{length, get_or, replicate, length-replicate}
use lib.Dec.{leb}
use mathlib.Core.Bool.{true}
use Rattle.carts.specs.Bytes.{every}
use Rattle.carts.specs.Transaction.{Transaction, L}
use Rattle.replication.specs.Answer as Writer
use Rattle.replication.specs.Answer.{done}
use Rattle.carts.proofs.TestLaws.{by_cond, within_low, within_of}
use Rattle.carts.proofs.OperationLaws.{Operations}
use Rattle.replication.specs.Memory.{Memory, copy_at, nth}
use Rattle.edit_log.specs.Log.{up_from}
use Rattle.replication.specs.Log.{logged}
use Rattle.replication.specs.Message.{message_in}
use Rattle.replication.specs.Call.{Call, run, final}
use Rattle.replication.specs.Calls as Bytes
use Rattle.replication.specs.Calls.{After, after, after_calls}
use Rattle.replication.specs.declared.control.Control.{Control}
use Rattle.replication.proofs.RowLaws.{unless_case}
use Rattle.refinement.specs.Represents.{OfLayout, fields_form, Simulates}
use Rattle.refinement.proofs.Arrays.{formed}
use Rattle.refinement.proofs.Transactions.{all_operations, all_append}
use Rattle.refinement.proofs.Standing.{log_operations}
use Rattle.refinement.proofs.Simulation.{history_joined, same_history}
use Rattle.refinement.proofs.Theorems as Refined
use Rattle.machine.specs.Machine as Plain
use Rattle.machine.specs.Machine.{Step}
use Rattle.machine.specs.OneCopy.{Event, history}
use Rattle.machine.proofs.Sort.{All, all_get_d}
use Rattle.van.specs.Message.{message_number}
use Rattle.van.specs.Answer.{Answer, refused, applied, held}
use Rattle.van.specs.Receive as Receiver
use Rattle.van.specs.Receive.{Van, receive, receive_all}
use Rattle.delivery.specs.Delivery.{Message, added_in, committed_in, Written, WrittenIn, FromOneLog, numbers, van_after, Follows}
use Rattle.delivery.proofs.Runs as Runs
use Rattle.delivery.proofs.Received as Received
use Rattle.delivery.proofs.Received.{Sent, reached, follows}
use Rattle.delivery.proofs.Grown.{Whole, list_adds, added_joined, all_plain}
use Rattle.delivery.proofs.Written.{Accepted, sent_of, sent_later, after_retired, message_later, message_most, accepted_by, writes, refused_21}

-- what r left, and whatever transactions were retired before
module _ (r : After) (old : List Transaction) (many : length old ≡ r.control.retired) (whole : All Operations old) where
  all_before : Whole r.control r.memory.log (old ++ logged r.control r.memory.log)
  all_before = record { gone = old; many = many; same = refl; formed = whole }

  -- all committed transactions after H
  pub all_after : (H : List Call) → let left = after_calls r H in Whole left.control left.memory.log (old ++ committed_in r H)
  unfolding committed_in
  all_after H = subst (Whole _ _) (append_assoc old (logged r.control r.memory.log) (added_in (history r H))) (list_adds H r _ all_before)

  -- a message written at some moment of H is one of those
  written_then : OfLayout r.control r.memory → (H : List Call) (x : Message) → WrittenIn r H x → Sent (old ++ committed_in r H) x
  unfolding committed_in
  written_then h H x w =
      let log = logged r.control r.memory.log in
      let now = after_calls r w.before in
      let first = added_in (history r w.before) in
      let rest = added_in (history now w.later) in
      let parts : added_in (history r H) ≡ first ++ rest = ap (λ (K : List Call). added_in (history r K)) w.list ∙ ap added_in (history_joined w.before w.later r) ∙ added_joined _ _ in
      let grouped : old ++ (log ++ added_in (history r H)) ≡ (old ++ (log ++ first)) ++ rest = ap (λ (z : List Transaction). old ++ (log ++ z)) parts ∙ ap (λ (z : List Transaction). old ++ z) (sym (append_assoc log first rest))
      ∙ sym (append_assoc old (log ++ first) rest) in
      subst (λ (l : List Transaction). Sent l x) (sym grouped)
      (sent_later (old ++ (log ++ first)) rest x (sent_of _ _ (formed _ _ (Refined.list_keeps_layout w.before r h)) (old ++ (log ++ first)) (all_after w.before) x w.then))

-- From any control and memory of the layout, after any list H of calls; `old` are the transactions that were retired before H, whatever they were: their operations have the fields of
-- their kinds.
module _ (r : After) (h : OfLayout r.control r.memory) (old : List Transaction) (many : length old ≡ r.control.retired) (whole : every fields_form old ≡ true) (H : List Call) where
  log : List Transaction
  log = old ++ committed_in r H

  -- each of them is of its form
  formed_log : (j : ℕ) → j < length log → Operations (get_or log j [])
  unfolding log
  formed_log j u =
      let w = all_after r old many (all_operations old whole) H in
      let f = formed _ _ (Refined.list_keeps_layout H r h) in
      let all : All Operations (old ++ committed_in r H) = rw w.same (all_append w.gone _ w.formed (log_operations _ _ f)) in
      all_get_d Operations (old ++ committed_in r H) [] j all u

  -- THE VAN. From any control and memory of the layout, any list H of calls, any messages written at any moments of H, received from a fresh van in any order and with
  -- any losses and repeats: the van's copy is L(applied) of the transactions committed then, and applied is exactly the longest run 1, 2, 3, .. that can be picked from the
  -- messages' numbers in their order. S-9: a message written before its transaction's retirement may arrive after it.
  pub van_follows : (D : List Message) → FromOneLog r H D → Follows (old ++ committed_in r H) D (van_after D)
  unfolding log
  van_follows D from = follows log formed_log D (reached log formed_log D (λ x m. written_then r old many (all_operations old whole) h H x (from x m)) 0 (omega arith))

  -- ANSWERS. The van after D receives one message more, written at some moment of H: a number up to applied is held, the next one is applied, one above that is refused with
  -- 18. No such message is refused with 17.
  module _ (D : List Message) (from : FromOneLog r H D) (x : Message) (written : WrittenIn r H x) where
    abbrev answer : Answer
    answer = (receive (van_after D) x.bytes).answer

    there : Follows log D (van_after D)
    unfolding log
    there = van_follows D from

    sent : Sent log x
    unfolding log
    sent = written_then r old many (all_operations old whole) h H x written

    pub answers_held : x.number ≤ (van_after D).applied → answer ≡ held x.number
    answers_held = Received.answers_held log formed_log (van_after D) there.copy there.known x sent

    pub answers_applied : x.number ≡ (van_after D).applied + 1 → answer ≡ applied x.number
    answers_applied = Received.answers_applied log formed_log (van_after D) there.copy there.known x sent

    pub answers_18 : (van_after D).applied + 1 < x.number → answer ≡ refused 18
    answers_18 = Received.answers_18 log formed_log (van_after D) there.copy there.known x sent

    pub only_18 : (k : ℕ) → answer ≡ refused k → k ≡ 18
    only_18 = Received.only_18 log formed_log (van_after D) there.copy there.known x sent

-- The same for one control and memory of the layout, from which all messages are written.
pub one_log : (c : Control) (m : Memory) → OfLayout c m → (old : List Transaction) → length old ≡ c.retired → every fields_form old ≡ true
    → (D : List Message) → ((x : Message) → Memᴰ x D → Written c m x) → Follows (old ++ logged c m.log) D (van_after D)
unfolding run final committed_in added_in history
one_log c m h old many whole D from =
    subst (λ (l : List Transaction). Follows (old ++ l) D (van_after D)) (append-nil (logged c m.log))
    (van_follows (after (done 0) c m []) h old many whole [] D (λ x i. record { before = []; later = []; list = refl; then = from x i }))

-- "the longest run": whatever run 1, 2, 3, .. can be picked from the list, it is no longer than applied.
pub longest : (log : List Transaction) (D : List Message) (v : Van) → Follows log D v → (k : ℕ) → Sublistᴰ (up_from 1 k) (numbers D) → k ≤ v.applied
longest log D v f = Runs.longest v.applied (numbers D) f.no_more

-- for what no message depends on: as many transactions without operations
no_operations : (n : ℕ) → All Operations (replicate n [])
unfolding every
no_operations zero = tt
no_operations (suc n) = (record { sizes = refl; fields = refl }, no_operations n)

-- EVERY MESSAGE. From any control and memory of the layout, every committed transaction that is not retired can be written to an output of 644 bytes.
pub can_write : (c : Control) (m : Memory) → OfLayout c m → (n : ℕ) → c.retired < n → n ≤ c.commits → (out : List ℕ) → 644 ≤ length out → (size : ℕ) × ((Bytes.write c m n out).answer ≡ done size)
can_write c m h n low high out room =
    let kept = after_retired c.retired n low in
    let known = within_of 1 c.commits n (omega arith) high in
    let some = replicate c.retired [] in
    let most = message_most c m (formed c m h) _ (all_before (after (done 0) c m []) some (length-replicate {A = Transaction} c.retired []) (no_operations c.retired)) n kept known in
    (length (message_in c m.log n), ap (λ (r : After). r.answer) (writes c m n out h kept known (omega arith)))

-- A SLOW VAN. From any control and memory of the layout, the writer writes the message of number n. After any list of calls that has not retired it, it answers the same for that number and
-- output, and writes the same message; once it is retired, the writer refuses it with 21 (S-9).
module _ (r : After) (h : OfLayout r.control r.memory) (n : ℕ) (out : List ℕ) (size : ℕ) (answer : (Bytes.write r.control r.memory n out).answer ≡ done size) (H : List Call) where
  abbrev left : After
  left = after_calls r H

  a : Accepted r.control r.memory n out
  a = accepted_by r.control r.memory n out size answer

  pub same_later : left.control.retired < n → Bytes.write left.control left.memory n out ≡ after (done size) left.control left.memory (Bytes.write r.control r.memory n out).output
  unfolding committed_in
  same_later still =
      let some = replicate r.control.retired [] in
      let many = length-replicate {A = Transaction} r.control.retired [] in
      let none = no_operations r.control.retired in
      let f = formed _ _ h in
      let g = formed _ _ (Refined.list_keeps_layout H r h) in
      let log = logged r.control r.memory.log in
      let new = added_in (history r H) in
      let kept = after_retired left.control.retired n still in
      let both = subst (Whole left.control left.memory.log) (sym (append_assoc some log new)) (all_after r some many none H) in
      let (known, same) = message_later r.control left.control r.memory left.memory f g (some ++ log) new (all_before r some many none) both n a.kept a.known kept in
      let told : done (length (message_in r.control r.memory.log n)) ≡ done size = sym (ap (λ (x : After). x.answer) a.left) ∙ answer in
      writes left.control left.memory n out (Refined.list_keeps_layout H r h) kept known (rw same a.room)
      ∙ rw (same, told) (ap (λ (o : List ℕ). after (done size) left.control left.memory o) (sym (ap (λ (x : After). x.output) a.left)))

  pub retired_later : n ≤ left.control.retired → (Bytes.write left.control left.memory n out).answer ≡ Writer.refused 21
  retired_later gone = refused_21 left.control left.memory n out (Refined.list_keeps_layout H r h) (within_of 1 left.control.retired n (within_low 1 r.control.commits n a.known) gone)

-- NOT APPLIED IS LOST. Of any copy, applied number and bytes, also out of form: a receiver that does not answer that the message is applied leaves copy and applied as they were.
-- So in any list of messages one that is refused or held might as well have been lost.
pub not_applied : (v : Van) (x : List ℕ) → ((n : ℕ) → (receive v x).answer ≡ applied n → ⊥) → (receive v x).van ≡ v
unfolding receive
not_applied v x = unless_case (λ (y : Receiver.After). ((n : ℕ) → y.answer ≡ applied n → ⊥) → y.van ≡ v) _ _ _ (λ k e h. refl)
    (λ e. by_cond (λ (y : Receiver.After). ((n : ℕ) → y.answer ≡ applied n → ⊥) → y.van ≡ v) (leb (message_number x) v.applied) _ _ (λ _ h. refl) (λ _ h. absurd (h _ refl)))

pub as_lost : (v : Van) (A : List (List ℕ)) (x : List ℕ) (B : List (List ℕ)) → ((n : ℕ) → (receive (receive_all v A) x).answer ≡ applied n → ⊥)
    → receive_all v (A ++ (x ∷ B)) ≡ receive_all v (A ++ B)
unfolding receive_all
as_lost v [] x B h = ap (λ (w : Van). receive_all w B) (not_applied v x h)
as_lost v (a ∷ A) x B h = as_lost (receive v a).van A x B h

-- BEGUN SYSTEMS, fresh or loaded. After H from bytes that stand for a state of the plain machine the van's copy is L(applied) of the machine's transactions; so it is, byte for byte, the copy of a studio
-- that has applied as many.
module _ (r : After) (p : Step) (begun : Simulates r p) (H : List Call) (D : List Message) (from : FromOneLog r H D) where
  -- the machine's transactions are those
  same_log : begun.next.old ++ committed_in r H ≡ (Plain.after_calls p H).next.log
  unfolding committed_in
  same_log =
      let log = logged r.control r.memory.log in
      let old = begun.next.old in
      sym (append_assoc old log (added_in (history r H))) ∙ ap (λ (z : List Transaction). z ++ added_in (history r H)) (sym begun.next.log)
      ∙ ap (λ (e : List Event). p.next.log ++ added_in e) (same_history H r p begun) ∙ sym (all_plain H p)

  pub van_copy : (van_after D).copy ≡ L (Plain.after_calls p H).next.log (van_after D).applied
  van_copy = (van_follows r begun.next.form begun.next.old begun.next.many begun.next.whole H D from).copy ∙ ap (λ (l : List Transaction). L l (van_after D).applied) same_log

  pub as_studio : (i : ℕ) → 1 ≤ i → i ≤ 4 → let left = after_calls r H in nth left.control.applied i ≡ (van_after D).applied
      → (van_after D).copy ≡ copy_at left.memory.library i
  as_studio i low high e = van_copy ∙ ap (L _) (sym e) ∙ sym (Refined.replica r p begun H i low high)
