-- DEMAND 3 on the plain machine: every list of calls has a one-copy order, from every sound machine whose operations that are not retired met their carts. 02, S-8 and
-- S-9: the transactions that are not retired and the entries of the list after them are a history, which begins with the library of the retired ones.
use Prim.Native.Nat.{ℕ, ◌+◌, ◌≤◌}
use native.Mathlib.Omega.{arith}
use mathlib.Core.Path.{◌≡◌, refl, sym, ap, subst, ◌∙◌}
use mathlib.Core.Bool.{true}
use mathlib.Core.List.{List, [], ◌∷◌, ◌++◌, append-nil, append_assoc}
use lib.ListN.{length, take, drop, take-append-drop}
use lib.Seq.{length-take-le}
use Rattle.carts.specs.Operation.{meets_all, act_all}
use Rattle.carts.specs.Transaction.{Transaction, replay, L, met_from}
use Rattle.carts.proofs.TestLaws.{and_left, and_right}
use Rattle.replication.specs.Request.{Request}
use Rattle.replication.specs.Call.{Call}
use Rattle.machine.specs.Machine.{Machine, Step, kept, session_of, with_log}
use Rattle.machine.specs.Library.{library, empty_library}
use Rattle.machine.specs.OneCopy.{Entry, OneCopy, entries, loaded}
use Rattle.machine.proofs.Sort.{length_snoc}
use Rattle.machine.proofs.Updates.{put}
use Rattle.machine.proofs.History.{History, made}
use Rattle.machine.proofs.Ordered.{ordered}
use Rattle.machine.proofs.Libraries.{L-first, L-after}
use Rattle.machine.proofs.Sound.{Sound}
use Rattle.machine.proofs.Follows.{WaitsFor, Follows, appended, shown_to_none}
use Rattle.machine.proofs.Entries.{plain_counted, all_goes}
use Rattle.machine.proofs.MetLaws.{Met}

module _ (r : Step) (waited : ℕ → Request) (H : List Call) (sound : Sound r.next) where
  abbrev m : Machine
  m = r.next

  abbrev later : List Entry
  later = entries (length (kept m)) waited (plain_counted r H)

  -- `past` of the log is retired or has been fed, and ts is to come
  load_goes : (ts past : List Transaction) (i n : ℕ) (copies : ℕ → List ℕ) (floor : ℕ → ℕ) → length past ≡ n → past ++ ts ≡ m.log
      → Follows (with_log m past) copies floor waited → met_from (L past (length past)) ts ≡ true → History n copies floor (loaded i n ts ++ later)
  unfolding loaded met_from
  load_goes [] past i n copies floor l e f met =
      let same : past ≡ m.log = sym (append-nil past) ∙ e in
      all_goes H r n copies floor waited (length (kept m)) (ap length (sym same) ∙ l) sound
      (subst (λ (log : List Transaction). Follows (with_log m log) copies floor waited) same f)
  load_goes (t ∷ ts) past i n copies floor l e f met =
      let k : ℕ = length past in
      let now : List ℕ = L past k in
      let grown : length (past ++ (t ∷ [])) ≡ k + 1 = length_snoc past t in
      let meets : meets_all (copies k) t ≡ true = rw (f.libraries k (omega arith)) (and_left (meets_all now t) (met_from (act_all now t) ts) met) in
      let after : L (past ++ (t ∷ [])) (length (past ++ (t ∷ []))) ≡ act_all now t = ap (L (past ++ (t ∷ []))) grown ∙ L-after past t in
      let copies' : ℕ → List ℕ = put copies (k + 1) (act_all (copies k) t) in
      subst (λ (j : ℕ). History j copies floor (loaded i j (t ∷ ts) ++ later)) l
      (made i 0 t meets (load_goes ts (past ++ (t ∷ [])) (i + 1) (k + 1) copies' (put floor 0 (k + 1)) grown (append_assoc past (t ∷ []) ts ∙ e)
      (shown_to_none _ copies' floor waited (appended (with_log m past) copies floor waited f t) (k + 1))
      (rw after (and_right (meets_all now t) (met_from (act_all now t) ts) met))))

  -- the history begins with the libraries of the retired transactions, which every session has been shown
  history_of_all : Met m → ((s : ℕ) → 1 ≤ s → WaitsFor (waited s) (session_of m s)) → History m.retired (L m.log) (λ s. m.retired) (loaded 0 m.retired (kept m) ++ later)
  history_of_all met w =
      let n : ℕ = m.retired in
      let old : List Transaction = take n m.log in
      let many : length old ≡ n = length-take-le n m.log sound.retired_commits in
      let base : L old (length old) ≡ L m.log n = rw many (L-first m.log n n (omega arith)) in
      load_goes (kept m) old 0 n (L m.log) (λ s. n) many (take-append-drop n m.log) (record {
        libraries = λ k u. sym (L-first m.log n k (omega arith));
        floors = λ s u. omega arith;
        waits_for = w;
      }) (rw base met)

  -- DEMAND 3 on the plain machine: every list of calls, from every such machine, has a one-copy order. 02, S-9: "the single library then begins, the retired count already played".
  pub one_copy_from : Met m → ((s : ℕ) → 1 ≤ s → WaitsFor (waited s) (session_of m s))
      → (order : List Entry) × OneCopy (library m.retired (L m.log m.retired)) (loaded 0 m.retired (kept m) ++ later) order
  one_copy_from met w = (_, ordered (history_of_all met w))

-- the library of no transaction, with which the single library begins where none is retired
pub begins_empty : (log : List Transaction) → library 0 (L log 0) ≡ empty_library
unfolding L replay empty_library
begins_empty log = refl

-- where none is retired the single library begins empty, and is fed the whole log
pub one_copy_unretired : (r : Step) (waited : ℕ → Request) (H : List Call) → Sound r.next → r.next.retired ≡ 0 → Met r.next
    → ((s : ℕ) → 1 ≤ s → WaitsFor (waited s) (session_of r.next s)) → let log = r.next.log in
    (order : List Entry) × OneCopy empty_library (loaded 0 0 log ++ entries (length log) waited (plain_counted r H)) order
one_copy_unretired r waited H f e met w =
    let log : List Transaction = r.next.log in
    rw (← begins_empty log)
    (subst (λ (n : ℕ). (order : List Entry) × OneCopy (library n (L log n)) (loaded 0 n (drop n log) ++ entries (length (drop n log)) waited (plain_counted r H)) order) e
    (one_copy_from r waited H f met w))
