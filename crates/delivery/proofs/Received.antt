-- A van that has L(k) and receives messages of one log: one, and a list of them.
use mathlib.Core.Path.{◌≡◌, refl, sym, ap, ◌∙◌, subst}
use mathlib.Core.Bool.{Bool, true, false}
use mathlib.Core.List.{List, [], ◌∷◌, map, Memᴰ}
use Prim.Native.Nat.{ℕ, zero, suc, ◌+◌, ◌-◌, ◌<◌, ◌≤◌}
use native.Mathlib.Omega.{arith}
use native.Mathlib.Decide.{ℕ_discrete}
use native.Mathlib.Numerals.{add-one}
use lib.ListN.{length, get_or}
use lib.Dec.{leb}
use borrow.Author.Tests.{leb-true, leb-false, eq-eqb, lt-ltb, le-ltb}
use Rattle.carts.specs.Bytes.{zeros}
use Rattle.carts.specs.Operation.{act_all}
use Rattle.carts.specs.Transaction.{Transaction, replay, L}
use Rattle.carts.proofs.TestLaws.{all_cons, all_nil}
use Rattle.carts.proofs.ZeroLaws.{length_zeros, zero_zeros}
use Rattle.carts.proofs.KeepLaws.{Copy, copy_empty, act_all_copy}
use Rattle.carts.proofs.OperationLaws.{Operations}
use Rattle.replication.specs.Message.{message_of}
use Rattle.machine.proofs.Libraries.{L-next}
use Rattle.van.specs.Message.{message_number, message_operations, message_form}
use Rattle.van.specs.Answer.{Answer, refused, applied, held}
use Rattle.van.specs.Receive.{Van, van, fresh_van, van_form, After, after, receive, receive_all}
use Rattle.van.proofs.MessageLaws.{operations_lent}
use Rattle.van.proofs.ReceiveLaws.{ahead, next_or_held, receive_refused, receive_held, receive_applied}
use Rattle.delivery.specs.Delivery.{Message, numbers, van_after, Follows}
use Rattle.delivery.proofs.Runs.{Run, run_none, run_next, run_other}
use Rattle.delivery.proofs.Messages.{Sendable, number_of, operations_of_law, message_formed}

held_refused : {n k : ℕ} → held n ≡ refused k → ⊥
held_refused e = let z : ◌≡◌ {A = ℕ} 0 1 = cc in omega arith

applied_refused : {n k : ℕ} → applied n ≡ refused k → ⊥
applied_refused e = let z : ◌≡◌ {A = ℕ} 0 1 = cc in omega arith

-- a number that was applied, that is next, or that is above the next
by_place : (P : Type 0) (n k : ℕ) → (n ≤ k → P) → (n ≡ k + 1 → P) → (k + 1 < n → P) → P
by_place P n k old next early = go (leb n k) refl (ℕ_discrete n (k + 1))
  where
    go : (b : Bool) → leb n k ≡ b → Dec (n ≡ k + 1) → P
    go true e d = old (leb-true n k e)
    go false e (yes f) = next f
    go false e (no f) = let o = leb-false n k e in early (omega arith)

-- a message of a transaction of this log, which a message can carry
abbrev pub Sent : List Transaction → Message → Type 0
Sent log x =
    let t = get_or log (x.number - 1) [] in
    (1 ≤ x.number) × (x.number ≤ length log) × (x.bytes ≡ message_of x.number t) × Sendable t

-- a log of operations of their form
module _ (log : List Transaction) (formedLog : (j : ℕ) → j < length log → Operations (get_or log j [])) where
  copy_formed : (k : ℕ) → k ≤ length log → Copy (L log k)
  unfolding L replay
  copy_formed zero h = record { size = length_zeros 10240; form = copy_empty (zeros 10240) (zero_zeros 10240) }
  copy_formed (suc k) h =
      subst Copy (sym (ap (L log) (sym (add-one k)) ∙ L-next log k (omega arith)))
      (act_all_copy (L log k) (get_or log k []) (copy_formed k (omega arith)) (formedLog k (omega arith)))

  van_formed : (k : ℕ) → k ≤ length log → van_form (L log k) ≡ true
  unfolding van_form
  van_formed k h = let c = copy_formed k h in all_cons _ _ (eq-eqb _ _ c.size) (all_cons _ _ c.form all_nil)

  -- the van of the first k transactions receives the message of transaction n
  module _ (k n : ℕ) (h : k ≤ length log) (low : 1 ≤ n) (high : n ≤ length log) (sendable : Sendable (get_or log (n - 1) [])) where
    abbrev message : List ℕ
    message = message_of n (get_or log (n - 1) [])

    formed : message_form message ≡ true
    formed = message_formed n _ sendable low

    number : message_number message ≡ n
    number = number_of n _

    -- it was applied before
    receive_old : n ≤ k → receive (van (L log k) k) message ≡ after (held n) (van (L log k) k)
    receive_old o = sym (receive_held (L log k) k message 0 (next_or_held (L log k) k message formed (van_formed k h) (rw number (le-ltb (k + 1) n (omega arith)))) refl n (sym number) o)

    -- one before it is missing
    receive_early : k + 1 < n → receive (van (L log k) k) message ≡ after (refused 18) (van (L log k) k)
    receive_early o = sym (receive_refused (L log k) k message 18 (ahead (L log k) k message formed (van_formed k h) (rw number (lt-ltb (k + 1) n o))) (λ e. omega arith))

    -- it is the next one
    receive_next : n ≡ k + 1 → receive (van (L log k) k) message ≡ after (applied n) (van (L log n) n)
    receive_next e =
        let stops = next_or_held (L log k) k message formed (van_formed k h) (rw number (le-ltb (k + 1) n (omega arith))) in
        let j : n - 1 ≡ k = omega arith in
        let copy : L log n ≡ act_all (L log k) (message_operations message) = ap (L log) e ∙ L-next log k (omega arith)
        ∙ ap (act_all (L log k)) (ap (λ (i : ℕ). get_or log i []) (sym j) ∙ sym (operations_of_law n _ sendable)) in
        sym (receive_applied (L log k) k message 0 stops refl n (sym number) (omega arith) (L log n) (copy ∙ ap (act_all (L log k)) (sym (operations_lent message))))

  -- what the van has after a list of them, d transactions further on
  pub record Reached (k : ℕ) (D : List Message) : Type 0 where
    pub more : ℕ
    pub left : receive_all (van (L log k) k) (map (λ (x : Message). x.bytes) D) ≡ van (L log (k + more)) (k + more)
    pub known : k + more ≤ length log
    pub run : Run k more (numbers D)

  module _ (x : Message) (s : Sent log x) (D : List Message) (k : ℕ) where
    -- one that leaves the van as it was, and the next one
    stays : (receive (van (L log k) k) x.bytes).van ≡ van (L log k) k → (x.number ≡ k + 1 → ⊥) → Reached k D → Reached k (x ∷ D)
    unfolding receive_all
    stays e other r = record {
      more = r.more;
      left = ap (λ (v : Van). receive_all v (map (λ (y : Message). y.bytes) D)) e ∙ r.left;
      known = r.known;
      run = run_other k r.more x.number (numbers D) other r.run;
    }

    goes_on : (receive (van (L log k) k) x.bytes).van ≡ van (L log (k + 1)) (k + 1) → x.number ≡ k + 1 → Reached (k + 1) D → Reached k (x ∷ D)
    unfolding receive_all
    goes_on e next r =
        let sum : k + 1 + r.more ≡ k + (r.more + 1) = omega arith in
        record {
          more = r.more + 1;
          left = ap (λ (v : Van). receive_all v (map (λ (y : Message). y.bytes) D)) e ∙ r.left ∙ ap (λ (j : ℕ). van (L log j) j) sum;
          known = omega (arith, r.known);
          run = rw next (run_next k r.more (numbers D) r.run);
        }

    pub step : k ≤ length log → ((j : ℕ) → j ≤ length log → Reached j D) → Reached k (x ∷ D)
    step h rest = by_place (Reached k (x ∷ D)) x.number k
        (λ o. stays (left _ (receive_old k x.number h s.0 s.1 s.3 o)) (λ f. omega arith) (rest k h))
        (λ f. let high = s.1 in goes_on (left _ (receive_next k x.number h s.0 s.1 s.3 f) ∙ ap (λ (j : ℕ). van (L log j) j) f) f (rest (k + 1) (omega arith)))
        (λ o. stays (left _ (receive_early k x.number h s.0 s.1 s.3 o)) (λ f. omega arith) (rest k h))
      where
        left : (y : After) → receive (van (L log k) k) (message_of x.number (get_or log (x.number - 1) [])) ≡ y → (receive (van (L log k) k) x.bytes).van ≡ y.van
        left y e = ap (λ (b : List ℕ). (receive (van (L log k) k) b).van) s.2 ∙ ap (λ (y : After). y.van) e

  pub reached : (D : List Message) → ((x : Message) → Memᴰ x D → Sent log x) → (k : ℕ) → k ≤ length log → Reached k D
  unfolding receive_all
  reached [] sent k h = let z : k ≡ k + 0 = omega arith in record { more = 0; left = ap (λ (j : ℕ). van (L log j) j) z; known = omega arith; run = run_none k }
  reached (x ∷ D) sent k h = step x (sent x (Memᴰ.head refl)) D k h (reached D (λ y m. sent y (Memᴰ.tail m)))

-- a van that stands for L(applied) receives a message of the log: its three answers
module _ (log : List Transaction) (formedLog : (j : ℕ) → j < length log → Operations (get_or log j [])) (v : Van) (same : v.copy ≡ L log v.applied) (h : v.applied ≤ length log)
    (x : Message) (s : Sent log x) where
  abbrev k : ℕ
  k = v.applied

  by_log : (a : Answer) (w : Van) → receive (van (L log k) k) (message_of x.number (get_or log (x.number - 1) [])) ≡ after a w → (receive v x.bytes).answer ≡ a
  by_log a w e = ap (λ (y : After). y.answer) (ap (λ (c : List ℕ). receive (van c k) x.bytes) same ∙ ap (receive (van (L log k) k)) s.2 ∙ e)

  pub answers_held : x.number ≤ k → (receive v x.bytes).answer ≡ held x.number
  answers_held o = by_log _ _ (receive_old log formedLog k x.number h s.0 s.1 s.3 o)

  pub answers_applied : x.number ≡ k + 1 → (receive v x.bytes).answer ≡ applied x.number
  answers_applied o = by_log _ _ (receive_next log formedLog k x.number h s.0 s.1 s.3 o)

  pub answers_18 : k + 1 < x.number → (receive v x.bytes).answer ≡ refused 18
  answers_18 o = by_log _ _ (receive_early log formedLog k x.number h s.0 s.1 s.3 o)

  pub only_18 : (j : ℕ) → (receive v x.bytes).answer ≡ refused j → j ≡ 18
  only_18 j e = by_place (j ≡ 18) x.number k
      (λ o. absurd (held_refused (sym (answers_held o) ∙ e)))
      (λ f. absurd (applied_refused (sym (answers_applied f) ∙ e)))
      (λ o. let both = sym (answers_18 o) ∙ e in cc)

-- from a fresh van
pub follows : (log : List Transaction) (formedLog : (j : ℕ) → j < length log → Operations (get_or log j [])) (D : List Message) → Reached log formedLog 0 D → Follows log D (van_after D)
unfolding fresh_van L replay
follows log formedLog D r =
    let z : 0 + r.more ≡ r.more = omega arith in
    subst (Follows log D) (sym (r.left ∙ ap (λ (k : ℕ). van (L log k) k) z))
    (record { copy = refl; known = omega (arith, r.known); picked = r.run.picked; no_more = r.run.no_more })
