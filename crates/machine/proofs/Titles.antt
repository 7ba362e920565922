-- A title in L(n): after the transaction that wrote it, as long as no transaction has an operation on its cart, and in the reads that show it.
use Prim.Native.Nat.{ℕ, zero, suc, ◌+◌, ◌*◌, ◌≤◌, ◌<◌}
use native.Mathlib.Omega.{arith}
use native.Mathlib.Numerals.{add-one}
use native.Mathlib.Decide.{ℕ_discrete}
use mathlib.Core.Path.{◌≡◌, refl, sym, ap, ◌∙◌}
use mathlib.Core.Bool.{true, not}
use mathlib.Core.List.{List, [], ◌∷◌, ◌++◌}
use lib.Dec.{eqb}
use lib.ListN.{length, get_or}
use borrow.Author.Tests.{eqb-false, not-true}
use Rattle.carts.specs.Bytes.{part, u16, every}
use Rattle.carts.specs.Cart.{copy_size, cart_at}
use Rattle.carts.specs.Operation.{writes_title, operations_of, meets, act, meets_all, act_all}
use Rattle.carts.specs.Title.{shown_by_numbers}
use Rattle.carts.specs.Transaction.{Transaction, L, records_used}
use Rattle.carts.proofs.TestLaws.{and_left, and_right}
use Rattle.carts.proofs.OperationLaws.{Operations, operations_of_law, operations_first, length_act}
use Rattle.carts.proofs.KeepLaws.{act_other}
use Rattle.carts.proofs.TitleKept.{title_kept}
use Rattle.replication.specs.Answer.{done, answered}
use Rattle.replication.specs.Request.{by_numbers, shown_from}
use Rattle.replication.specs.Call as Call
use Rattle.replication.proofs.RowLaws.{unless_case}
use Rattle.replication.proofs.ShownLaws.{Askable}
use Rattle.replication.proofs.Accepted.{commit_passed}
use Rattle.machine.specs.Machine.{Machine, Step, commits, kept, session_of, refused_commit, commit, call}
use Rattle.machine.specs.Asked.{asked}
use Rattle.machine.specs.Titles.{title_in, spares, Writes}
use Rattle.machine.proofs.Sort.{All, all_get_d, length_snoc}
use Rattle.machine.proofs.Libraries.{length_L, L-next, L-after}
use Rattle.machine.proofs.Sound.{Sound}
use Rattle.machine.proofs.Grows.{Grown}
use Rattle.machine.proofs.Shown.{call_shows, numbers_shown}

-- a transaction that spares cart c leaves it as it was
spared : (ops : Transaction) (copy : List ℕ) (c : ℕ) → length copy ≡ copy_size → Operations ops → 1 ≤ c → spares c ops ≡ true → cart_at (act_all copy ops) c ≡ cart_at copy c
unfolding spares every act_all
spared [] copy c l h low e = refl
spared (op ∷ ops) copy c l h low e =
    let (o, rest) = operations_first op ops h in
    let other = eqb-false (u16 op 2) c (not-true _ (and_left (not (eqb (u16 op 2) c)) (spares c ops) e)) in
    spared ops (act copy op) c (length_act copy op l o.size o.high) rest low (and_right (not (eqb (u16 op 2) c)) (spares c ops) e)
    ∙ act_other copy op l o.size o.low o.high c low (λ q. other (sym q))

-- the last operation on a cart, where it is a new or a retitle, leaves its title there
written : (before : Transaction) (op : List ℕ) (later : Transaction) (copy : List ℕ) → length copy ≡ copy_size → Operations (before ++ (op ∷ later))
    → meets_all copy (before ++ (op ∷ later)) ≡ true → writes_title op ≡ true → spares (u16 op 2) later ≡ true
    → (title_in (cart_at (act_all copy (before ++ (op ∷ later))) (u16 op 2)) ≡ title_in op) × (1 ≤ u16 op 2)
unfolding meets_all act_all
written [] op later copy l h m w e =
    let (o, rest) = operations_first op later h in
    let t = title_kept copy op l o.size o.low o.high (and_left (meets copy op) (meets_all (act copy op) later) m) w in
    (ap title_in (spared later (act copy op) (u16 op 2) (length_act copy op l o.size o.high) rest o.low e) ∙ rw (t.length_kept, t.letters_kept), o.low)
written (b ∷ before) op later copy l h m w e =
    let (o, rest) = operations_first b (before ++ (op ∷ later)) h in
    written before op later (act copy b) (length_act copy b l o.size o.high) rest (and_right (meets copy b) (meets_all (act copy b) (before ++ (op ∷ later))) m) w e

pub title_written : (bytes op : List ℕ) → Writes bytes op → (copy : List ℕ) → length copy ≡ copy_size → Operations (operations_of bytes) → meets_all copy (operations_of bytes) ≡ true
    → (title_in (cart_at (act_all copy (operations_of bytes)) (u16 op 2)) ≡ title_in op) × (1 ≤ u16 op 2)
title_written bytes op w copy l h m =
    rw w.operations (written w.before op w.later copy l (rw w.operations at h) (rw w.operations at m) w.title w.last)

-- L(k) has cart c as L(n) has it, where transactions n + 1 to k spare it
L-spared : (log : List Transaction) (c : ℕ) → All Operations log → 1 ≤ c → (n k : ℕ) → n ≤ k → k ≤ length log
    → ((j : ℕ) → n ≤ j → j < k → spares c (get_or log j []) ≡ true) → cart_at (L log k) c ≡ cart_at (L log n) c
L-spared log c f low n zero u v h = ap (λ (i : ℕ). cart_at (L log i) c) (omega arith)
L-spared log c f low n (suc k) u v h = go (ℕ_discrete n (suc k)) (λ w. L-spared log c f low n k w (omega arith) (λ j a b. h j a (omega arith)))
  where
    next : L log (suc k) ≡ act_all (L log k) (get_or log k [])
    next = rw (← add-one) (L-next log k (omega arith))

    go : Dec (n ≡ suc k) → (n ≤ k → cart_at (L log k) c ≡ cart_at (L log n) c) → cart_at (L log (suc k)) c ≡ cart_at (L log n) c
    go (yes e) earlier = ap (λ (i : ℕ). cart_at (L log i) c) (sym e)
    go (no ne) earlier = ap (λ (l : List ℕ). cart_at l c) next
        ∙ spared (get_or log k []) (L log k) c (length_L log k f) (all_get_d Operations log [] k f (omega arith)) low (h k (omega arith) (omega arith))
        ∙ earlier (omega arith)

-- the library of n commits has the title that op wrote
pub record Written (op : List ℕ) (n : ℕ) (log : List Transaction) : Type 0 where
  pub known : n ≤ length log
  pub number : 1 ≤ u16 op 2
  pub title : title_in (cart_at (L log n) (u16 op 2)) ≡ title_in op

-- an accepted commit, whose last operation on a cart is a new or a retitle
pub commit_writes : (m : Machine) → Sound m → (s : ℕ) (bytes op : List ℕ) (n : ℕ) → Writes bytes op → (commit m s bytes).answer ≡ done n
    → Written op n (commit m s bytes).next.log
unfolding commit refused_commit
commit_writes m f s bytes op n w accepted = unless_case (λ (r : Step). r.answer ≡ done n → Written op n r.next.log) _ _ _
    (λ k _ q. let z : ◌≡◌ {A = ℕ} 0 1 = cc in absurd (omega arith))
    (λ p q. let a = commit_passed s (session_of m s).studio (session_of m s).waiting (records_used (kept m)) (commits m) (L m.log (commits m)) bytes p in
    let last : n ≡ commits m + 1 = cc in
    let t = title_written bytes op w (L m.log (commits m)) (length_L m.log (commits m) f.formed) (operations_of_law bytes a.form) a.meets in
    record {
      known = rw (length_snoc m.log (operations_of bytes)) (omega arith);
      number = t.1;
      title = rw (last, L-after m.log (operations_of bytes)) t.0;
    })
    accepted

-- a title stays with its cart
still_written : (op : List ℕ) (n k : ℕ) (log next : List Transaction) → Written op n log → Grown log next → All Operations next → n ≤ k → k ≤ length next
    → ((j : ℕ) → n ≤ j → j < k → spares (u16 op 2) (get_or next j []) ≡ true) → title_in (cart_at (L next k) (u16 op 2)) ≡ title_in op
still_written op n k log next w g f u v h =
    rw (L-spared next (u16 op 2) f w.number n k u v h, g.same n w.known) w.title

-- so a title is shown byte for byte at each place that asks for its cart
pub title_shown : (op : List ℕ) (n k : ℕ) (m : Machine) (log : List Transaction) → Sound m → Written op n log → Grown log m.log → n ≤ k
    → ((j : ℕ) → n ≤ j → j < k → spares (u16 op 2) (get_or m.log j []) ≡ true)
    → (x : Call.Call) (found : ℕ) → (call m x).answer ≡ answered k found
    → (cs : List ℕ) (i : ℕ) → asked m x ≡ by_numbers cs → i < length cs → get_or cs i 0 ≡ u16 op 2
    → title_in (part (call m x).output (80 * i) 80) ≡ title_in op
unfolding shown_from
title_shown op n k m log f w g u h x found e cs i q v c =
    let r = call_shows m f k found x e in
    let a : Askable (by_numbers cs) = rw q at r.askable in
    let shown : (call m x).output ≡ shown_by_numbers (L m.log k) cs ++ r.rest = rw q at r.output in
    rw (shown, numbers_shown (L m.log k) cs r.rest i (length_L m.log k f.formed) a v, c)
    (still_written op n k log m.log w g f.formed u r.known h)
