-- A commit: the front of the free chain becomes the last transaction, and every record is still in exactly one chain.
use Prim.Native.Nat.{ℕ, zero, suc, ◌+◌, ◌-◌, ◌≤◌}
use mathlib.Core.Path.{◌≡◌, refl, sym, ap, ◌∙◌}
use mathlib.Core.Logic.{◌≢◌}
use mathlib.Core.Bool.{Bool, true, cond, ◌&&◌}
use mathlib.Core.List.{List, [], ◌∷◌, ◌++◌, map, append_assoc, append-nil}
use native.Mathlib.Omega.{arith}
use native.Mathlib.Decide.{ℕ_discrete, dec_le}
use lib.ListN.{length, take, drop, length-append, take-append-drop}
use lib.Seq.{length-take-le}
use lib.Dec.{eqb}
use borrow.Author.Tests.{ne_eqb, eqb-true}
use Rattle.carts.specs.Bytes.{within, every}
use Rattle.carts.specs.Operation.{operation_fields}
use Rattle.carts.proofs.TestLaws.{and_left, and_right, within_low, within_high}
use Rattle.edit_log.specs.Log.{record_at, next_operation, next_transaction, chain, records_of, walk, front, handed_in, transactions_from, log_records, free_records, back}
use Rattle.edit_log.specs.Writes.{write_all, linked, appended}
use Rattle.edit_log.specs.Chains.{free_form, count, chains_form}
use Rattle.edit_log.proofs.ListLaws.{linked_kept, linked_drop, take_chain, every_kept, every_append, count_more, front_append, front_chain}
use Rattle.edit_log.proofs.OnceLaws.{Once, count_nil, count_append, count_here, every_in}
use Rattle.edit_log.proofs.WriteLaws.{Givens, given_sizes, Distinct, Wrote, wrote, written_linked, written_fields, written_last, joined_other, joined_link, joined_next, joined_fields, joined_text, written_handed}
use Rattle.edit_log.proofs.HoldLaws.{joined, Standing, Stand, Holds, transactions, length_transactions, holds_of, joined_transactions, used_is, oldest_is, log_lists, free_lists, of_holds, texts, shown_transactions, texts_kept, shown_kept, shown_lists}

-- where each occurs once, none occurs twice, and what occurs is one of the 512
module _ (rs : List ℕ) (o : Once rs) (q : ℕ) where
  pub once_in : 1 ≤ count q rs → (1 ≤ q) × (q ≤ 512)
  once_in l = let w = every_in (within 1 512) rs q o.inside l in (within_low 1 512 q w, within_high 1 512 q w)

  pub once_most : count q rs ≤ 1
  once_most = go (dec_le 1 (count q rs))
    where
      go : Dec (1 ≤ count q rs) → count q rs ≤ 1
      go (yes l) = let i = once_in l in let e = o.once q i.0 i.1 in omega arith
      go (no n) = omega arith

-- the first record of a list, and the others
pub front_count : (t : List ℕ) → 1 ≤ length t → count (front t) t ≡ 1 + count (front t) (drop 1 t)
unfolding front
front_count [] h = let z : ⊥ = omega arith in absurd z
front_count (x ∷ xs) h = count_here x xs

pub drop_count : (q : ℕ) (t : List ℕ) → count q (drop 1 t) ≤ count q t
drop_count q [] = omega arith
drop_count q (x ∷ xs) = count_more q x xs

-- a transaction in another log
pub standing_kept : (log log' t : List ℕ) (next next' : ℕ) → ((q : ℕ) → 1 ≤ count q t → (next_operation log' q ≡ next_operation log q) × (operation_fields (record_at log' q) ≡ operation_fields (record_at log q)))
    → ((q : ℕ) → 1 ≤ count q (drop 1 t) → next_transaction log' q ≡ next_transaction log q) → next_transaction log' (front t) ≡ next' → Standing log t next → Standing log' t next'
standing_kept log log' t next next' f g e s = record {
  low = s.low;
  high = s.high;
  fields = every_kept (λ q. operation_fields (record_at log q)) (λ q. operation_fields (record_at log' q)) t (λ q l h. (f q l).1 ∙ h) s.fields;
  links = linked_kept log log' t (λ q l. (f q l).0) s.links;
  later = every_kept (λ q. eqb (next_transaction log q) 0) (λ q. eqb (next_transaction log' q) 0) (drop 1 t) (λ q l h. ap (λ k. eqb k 0) (g q l) ∙ h) s.later;
  follows = e;
}

-- links are told by the record
pub by_next : (log log' : List ℕ) (q : ℕ) → record_at log q ≡ record_at log' q → next_operation log q ≡ next_operation log' q
unfolding next_operation
by_next log log' q e = rw e

pub by_link : (log log' : List ℕ) (q : ℕ) → record_at log q ≡ record_at log' q → next_transaction log q ≡ next_transaction log' q
unfolding next_transaction
by_link log log' q e = rw e

pub every_drop : (p : ℕ → Bool) (n : ℕ) (rs : List ℕ) → every p rs ≡ true → every p (drop n rs) ≡ true
unfolding every
every_drop p zero rs h = h
every_drop p (suc n) [] h = h
every_drop p (suc n) (r ∷ rs) h = every_drop p n rs (and_right (p r) (every p rs) h)

-- the first record of the last transaction
unfoldable pub last_first : List (List ℕ) → ℕ
last_first [] = 0
last_first (t ∷ []) = front t
last_first (t ∷ (u ∷ us)) = last_first (u ∷ us)

pub last_in : (t : List ℕ) (ts : List (List ℕ)) (log : List ℕ) → Stand log (t ∷ ts) → 1 ≤ count (last_first (t ∷ ts)) (joined (t ∷ ts))
unfolding last_first joined Stand
last_in t [] log s = let c = front_count t s.0.low in let d = count_append (front t) t [] in omega arith
last_in t (u ∷ us) log s = let rec = last_in u us log s.1 in let d = count_append (last_first (u ∷ us)) t (u ++ joined us) in omega arith

pub stand_walk : (t : List ℕ) (ts : List (List ℕ)) (log : List ℕ) → Stand log (t ∷ ts) → walk (length ts) log (front (joined (t ∷ ts))) ≡ last_first (t ∷ ts)
unfolding last_first joined Stand walk
stand_walk t [] log s = front_append t [] s.0.low
stand_walk t (u ∷ us) log s =
    ap (λ r. walk (length us) log (next_transaction log r)) (front_append t (u ++ joined us) s.0.low) ∙ ap (walk (length us) log) s.0.follows ∙ stand_walk u us log s.1

-- a record that was in use: only the link of the last transaction's first record differs
pub record Kept (log log' : List ℕ) (last q : ℕ) : Type 0 where
  pub next : next_operation log' q ≡ next_operation log q
  pub fields : operation_fields (record_at log' q) ≡ operation_fields (record_at log q)
  pub text : handed_in (record_at log' q) ≡ handed_in (record_at log q)
  pub link : q ≢ last → next_transaction log' q ≡ next_transaction log q

-- one transaction more, to which the last one is linked
pub stand_grow : (ts : List (List ℕ)) (new log log' : List ℕ) → Distinct (joined ts) → ((q : ℕ) → 1 ≤ count q (joined ts) → Kept log log' (last_first ts) q)
    → (1 ≤ length ts → next_transaction log' (last_first ts) ≡ front new) → Standing log' new 0 → Stand log ts → Stand log' (ts ++ (new ∷ []))
unfolding Stand joined last_first front
stand_grow [] new log log' d f e s g = (s, tt)
stand_grow (t ∷ []) new log log' d f e s g = (
  standing_kept log log' t (front []) (front (new ++ [])) (λ q l. let k = f q (up q l) in (k.next, k.fields)) (λ q l. (f q (up q (omega (arith, drop_count q t)))).link (apart q l))
      (e (omega arith) ∙ sym (front_append new [] s.low)) g.0,
  (s, tt),
)
  where
    up : (q : ℕ) → 1 ≤ count q t → 1 ≤ count q (t ++ [])
    up q l = let c = count_append q t [] in omega arith

    apart : (q : ℕ) → 1 ≤ count q (drop 1 t) → q ≢ front t
    apart q l z =
        let c = front_count t g.0.low in
        let b = d (front t) in
        let a = count_append (front t) t [] in
        let l2 : 1 ≤ count (front t) (drop 1 t) = rw z at l in
        omega arith
stand_grow (t ∷ (u ∷ us)) new log log' d f e s g = (
  standing_kept log log' t (front (u ++ joined us)) (front (u ++ joined (us ++ (new ∷ [])))) (λ q l. let k = f q (up q l) in (k.next, k.fields))
      (λ q l. (f q (up q (omega (arith, drop_count q t)))).link (apart q (omega (arith, drop_count q t))))
      ((f (front t) (up (front t) here)).link (apart (front t) here) ∙ g.0.follows ∙ front_append u (joined us) low ∙ sym (front_append u (joined (us ++ (new ∷ []))) low)) g.0,
  stand_grow (u ∷ us) new log log' (λ q. let a = count_append q t (u ++ joined us) in let b = d q in omega arith) (λ q l. f q (let a = count_append q t (u ++ joined us) in omega arith)) (λ m. e (omega arith)) s g.1,
)
  where
    low : 1 ≤ length u
    low = g.1.0.low

    here : 1 ≤ count (front t) t
    here = let c = front_count t g.0.low in omega arith

    up : (q : ℕ) → 1 ≤ count q t → 1 ≤ count q (t ++ (u ++ joined us))
    up q l = let c = count_append q t (u ++ joined us) in omega arith

    apart : (q : ℕ) → 1 ≤ count q t → q ≢ last_first (u ∷ us)
    apart q l z =
        let i = last_in u us log g.1 in
        let a = count_append (last_first (u ∷ us)) t (u ++ joined us) in
        let b = d (last_first (u ∷ us)) in
        let l2 : 1 ≤ count (last_first (u ∷ us)) t = rw z at l in
        omega arith

pub joined_more : (ts : List (List ℕ)) (new : List ℕ) → joined (ts ++ (new ∷ [])) ≡ joined ts ++ new
unfolding joined
joined_more [] new = append-nil new
joined_more (t ∷ ts) new = ap (λ z. t ++ z) (joined_more ts new) ∙ sym (append_assoc t (joined ts) new)

pub joined_none : (ts : List (List ℕ)) → length ts ≡ 0 → joined ts ≡ []
unfolding joined
joined_none [] e = refl
joined_none (t ∷ ts) e = let z : ⊥ = omega arith in absurd z

-- a log by its lists, with the operations of its transactions
pub record Grown (log : List ℕ) (ts : List (List ℕ)) (free : List ℕ) (ops : List (List (List ℕ))) : Type 0 where
  pub holds : Holds log ts free
  pub shown : map (texts log) ts ≡ ops

map_append : {A B : Type 0} (f : A → B) (xs ys : List A) → map f (xs ++ ys) ≡ map f xs ++ map f ys
map_append f [] ys = refl
map_append f (x ∷ xs) ys = ap (λ z. f x ∷ z) (map_append f xs ys)

-- the log by its lists after a commit
module _ (log : List ℕ) (ts : List (List ℕ)) (free : List ℕ) (n : length log ≡ 40960) (x : Holds log ts free)
    (ops : List (List ℕ)) (g : Givens ops) (some : 1 ≤ length ops) (few : length ops ≤ 8) (room : length ops ≤ length free) where
  abbrev pub taken : List ℕ
  taken = take (length ops) free

  abbrev pub rest : List ℕ
  rest = drop (length ops) free

  abbrev pub written : List ℕ
  written = write_all taken ops log

  parted : free ≡ taken ++ rest
  parted = sym (take-append-drop (length ops) free)

  many : length taken ≡ length ops
  many = length-take-le (length ops) free room

  -- each record is in one of the three lists
  counts : (q : ℕ) → count q (joined ts) + (count q taken + count q rest) ≤ 1
  counts q =
      let a = count_append q (joined ts) free in
      let b : count q free ≡ count q taken + count q rest = ap (count q) parted ∙ count_append q taken rest in
      let c = once_most (joined ts ++ free) x.once q in
      omega arith

  in_free : (q : ℕ) → 1 ≤ count q free → (1 ≤ q) × (q ≤ 512)
  in_free q l = let a = count_append q (joined ts) free in once_in (joined ts ++ free) x.once q (omega arith)

  in_log : (q : ℕ) → 1 ≤ count q (joined ts) → (1 ≤ q) × (q ≤ 512)
  in_log q l = let a = count_append q (joined ts) free in once_in (joined ts ++ free) x.once q (omega arith)

  inside : every (within 1 512) taken ≡ true
  inside =
      let a : (every (within 1 512) (joined ts) && every (within 1 512) free) ≡ true = sym (every_append (within 1 512) (joined ts) free) ∙ x.once.inside in
      let b : (every (within 1 512) taken && every (within 1 512) rest) ≡ true =
      sym (every_append (within 1 512) taken rest) ∙ ap (every (within 1 512)) (sym parted) ∙ and_right (every (within 1 512) (joined ts)) (every (within 1 512) free) a in
      and_left (every (within 1 512) taken) (every (within 1 512) rest) b

  wrote_it : Wrote log taken ops written
  wrote_it = wrote taken ops log n many inside (λ q. let c = counts q in omega arith) (given_sizes ops g)

  -- a log that has the operations, and in the records outside those taken what the old log had but for the link
  module _ (log' : List ℕ) (same : (q : ℕ) → 1 ≤ count q free → record_at log' q ≡ record_at written q) (kept : (q : ℕ) → 1 ≤ count q (joined ts) → Kept log log' (last_first ts) q)
      (link : 1 ≤ length ts → next_transaction log' (last_first ts) ≡ front taken) where
    in_taken : (q : ℕ) → 1 ≤ count q taken → record_at log' q ≡ record_at written q
    in_taken q l = same q (let b : count q free ≡ count q taken + count q rest = ap (count q) parted ∙ count_append q taken rest in omega arith)

    in_rest : (q : ℕ) → 1 ≤ count q rest → record_at log' q ≡ record_at log q
    in_rest q l =
        let b : count q free ≡ count q taken + count q rest = ap (count q) parted ∙ count_append q taken rest in
        let c = counts q in
        same q (omega arith) ∙ wrote_it.other q (in_free q (omega arith)).0 (omega arith)

    new_stands : Standing log' taken 0
    new_stands =
        let w = wrote_it.new in
        let m = many in
        let zeros = written_last written taken ops many g w in
        let first : eqb (next_transaction written (front taken)) 0 ≡ true = every_in (λ q. eqb (next_transaction written q) 0) taken (front taken) zeros (let c = front_count taken (omega arith) in omega arith) in
        standing_kept written log' taken 0 0 (λ q l. (next_by q (in_taken q l), ap operation_fields (in_taken q l)))
        (λ q l. link_by q (in_taken q (omega (arith, drop_count q taken)))) (link_by (front taken) (in_taken (front taken) (let c = front_count taken (omega arith) in omega arith)) ∙ eqb-true _ 0 first)
        (record {
          low = omega arith;
          high = omega arith;
          fields = written_fields written taken ops many g w;
          links = written_linked written taken ops many (given_sizes ops g) w;
          later = every_drop (λ q. eqb (next_transaction written q) 0) 1 taken zeros;
          follows = eqb-true _ 0 first;
        })
      where
        next_by : (q : ℕ) → record_at log' q ≡ record_at written q → next_operation log' q ≡ next_operation written q
        next_by q e = by_next log' written q e

        link_by : (q : ℕ) → record_at log' q ≡ record_at written q → next_transaction log' q ≡ next_transaction written q
        link_by q e = by_link log' written q e

    append_shown : map (texts log') (ts ++ (taken ∷ [])) ≡ map (texts log) ts ++ (ops ∷ [])
    append_shown =
        map_append (texts log') ts (taken ∷ []) ∙ ap (λ z. z ++ (texts log' taken ∷ [])) (shown_kept log log' ts (λ q l. (kept q l).text))
        ∙ ap (λ z. map (texts log) ts ++ (z ∷ [])) (texts_kept written log' taken (λ q l. ap handed_in (in_taken q l)) ∙ written_handed written taken ops many g wrote_it.new)

    append_holds : Holds log' (ts ++ (taken ∷ [])) rest
    append_holds = record {
      stand = stand_grow ts taken log log' (λ q. let c = counts q in omega arith) kept link new_stands x.stand;
      links = linked_kept log log' rest (λ q l. by_next log' log q (in_rest q l)) (linked_drop (length ops) log free x.links);
      zero = every_kept (λ r. free_form (record_at log r)) (λ r. free_form (record_at log' r)) rest (λ q l h. ap free_form (in_rest q l) ∙ h) (every_drop (λ r. free_form (record_at log r)) (length ops) free x.zero);
      once = rw lists x.once;
      all512 =
          let a = ap length lists in
          let b = length-append (joined (ts ++ (taken ∷ []))) rest in
          let c = length-append (joined ts) free in
          let d = x.all512 in
          omega arith;
    }
      where
        lists : joined (ts ++ (taken ∷ [])) ++ rest ≡ joined ts ++ free
        lists = ap (λ z. z ++ rest) (joined_more ts taken) ∙ append_assoc (joined ts) taken rest ∙ ap (λ z. joined ts ++ z) (sym parted)

    pub append_grown : Grown log' (ts ++ (taken ∷ [])) rest (map (texts log) ts ++ (ops ∷ []))
    append_grown = record { holds = append_holds; shown = append_shown }

  -- the first transaction of all
  pub append_none : length ts ≡ 0 → Grown written (ts ++ (taken ∷ [])) rest (map (texts log) ts ++ (ops ∷ []))
  append_none e = append_grown written (λ q l. refl) (λ q l. let z : ⊥ = none q l in absurd z) (λ l. let z : ⊥ = omega arith in absurd z)
    where
      none : (q : ℕ) → 1 ≤ count q (joined ts) → ⊥
      none q l = let j : count q (joined ts) ≡ 0 = ap (count q) (joined_none ts e) ∙ count_nil q in omega arith

  -- a later one
  pub append_some : 1 ≤ count (last_first ts) (joined ts) → Grown (linked written (last_first ts) (front taken)) (ts ++ (taken ∷ [])) rest (map (texts log) ts ++ (ops ∷ []))
  append_some here = append_grown (linked written last (front taken))
      (λ q l. joined_other written size last low high (front taken) q (in_free q l).0 (λ e. apart q l e))
      (λ q l. keeps q l (ℕ_discrete q last))
      (λ l. joined_link written size last low high (front taken))
    where
      last : ℕ
      last = last_first ts

      size : length written ≡ 40960
      size = wrote_it.size

      low : 1 ≤ last
      low = (in_log last here).0

      high : last ≤ 512
      high = (in_log last here).1

      apart : (q : ℕ) → 1 ≤ count q free → q ≡ last → ⊥
      apart q l e =
          let a = count_append last (joined ts) free in
          let b = once_most (joined ts ++ free) x.once last in
          let m : 1 ≤ count last free = rw e at l in
          omega arith

      old : (q : ℕ) → 1 ≤ count q (joined ts) → record_at written q ≡ record_at log q
      old q l = let c = counts q in wrote_it.other q (in_log q l).0 (omega arith)

      keeps : (q : ℕ) → 1 ≤ count q (joined ts) → Dec (q ≡ last) → Kept log (linked written last (front taken)) last q
      keeps q l (yes e) = rw e (record {
        next = joined_next written size last low high (front taken) ∙ by_next written log last (old last here);
        fields = joined_fields written size last low high (front taken) ∙ ap operation_fields (old last here);
        text = joined_text written size last low high (front taken) ∙ ap handed_in (old last here);
        link = λ n. absurd (n refl);
      })
      keeps q l (no ne) =
          let r : record_at (linked written last (front taken)) q ≡ record_at log q = joined_other written size last low high (front taken) q (in_log q l).0 ne ∙ old q l in
          record { next = by_next (linked written last (front taken)) log q r; fields = ap operation_fields r; text = ap handed_in r; link = λ n. by_link (linked written last (front taken)) log q r }

-- the whole: commit keeps the two chains, with these control values and these lists
module _ (n : ℕ) (log : List ℕ) (used oldest first last : ℕ) (size : length log ≡ 40960) (h : chains_form n log used oldest first last ≡ true)
    (ops : List (List ℕ)) (g : Givens ops) (some : 1 ≤ length ops) (few : length ops ≤ 8) (room : used + length ops ≤ 512) where
  abbrev old : List ℕ
  old = free_records log first

  x : Holds log (transactions n log oldest) old
  x = holds_of n log used oldest first last h

  enough : length ops ≤ length old
  enough = let u = used_is n log used oldest first last h in let a = x.all512 in omega arith

  front_taken : chain (length ops) log first ≡ take (length ops) old
  unfolding free_records
  front_taken = sym (take_chain (length ops) 513 log first (omega arith))

  first_log : appended 0 log oldest first ops ≡ write_all (take (length ops) old) ops log
  unfolding appended
  first_log = ap (λ z. write_all z ops log) front_taken

  later_log : (k : ℕ) → appended (suc k) log oldest first ops ≡ linked (write_all (take (length ops) old) ops log) (walk k log oldest) (front (take (length ops) old))
  unfolding appended
  later_log k =
      let a : suc k ≡ 0 → ⊥ = λ q. omega arith in
      let b : suc k - 1 ≡ k = omega arith in
      rw (ne_eqb (suc k) 0 a, b, front_taken)

  grown : Grown (appended n log oldest first ops) (transactions n log oldest ++ (take (length ops) old ∷ [])) (drop (length ops) old) (map (texts log) (transactions n log oldest) ++ (ops ∷ []))
  unfolding transactions
  grown = go n x enough (oldest_is n log used oldest first last h)
    where
      go : (k : ℕ) (y : Holds log (transactions k log oldest) old) → length ops ≤ length old → front (joined (transactions k log oldest)) ≡ oldest
          → Grown (appended k log oldest first ops) (transactions k log oldest ++ (take (length ops) old ∷ [])) (drop (length ops) old) (map (texts log) (transactions k log oldest) ++ (ops ∷ []))
      go zero y l e = rw first_log (append_none log [] old size y ops g some few l refl)
      go (suc k) y l e =
          let t = records_of log oldest in
          let ts = transactions k log (next_transaction log oldest) in
          let w : walk k log oldest ≡ last_first (t ∷ ts) =
          ap (λ z. walk z log oldest) (sym (length_transactions k log (next_transaction log oldest))) ∙ ap (walk (length ts) log) (sym e) ∙ stand_walk t ts log y.stand in
          rw (later_log k, w) (append_some log (t ∷ ts) old size y ops g some few l (last_in t ts log y.stand))

  pub append_lists : Holds (appended n log oldest first ops) (transactions n log oldest ++ (take (length ops) old ∷ [])) (drop (length ops) old)
  append_lists = grown.holds

  -- control's values
  more : length (transactions n log oldest ++ (take (length ops) old ∷ [])) ≡ n + 1
  more = length-append (transactions n log oldest) (take (length ops) old ∷ []) ∙ ap (λ k. k + 1) (length_transactions n log oldest)

  records : joined (transactions n log oldest ++ (take (length ops) old ∷ [])) ≡ log_records n log oldest ++ take (length ops) old
  records = joined_more (transactions n log oldest) (take (length ops) old) ∙ ap (λ z. z ++ take (length ops) old) (joined_transactions n log oldest)

  used_more : length (joined (transactions n log oldest ++ (take (length ops) old ∷ []))) ≡ used + length ops
  used_more =
      ap length (joined_more (transactions n log oldest) (take (length ops) old)) ∙ length-append (joined (transactions n log oldest)) (take (length ops) old)
      ∙ (let a = used_is n log used oldest first last h in let b = length-take-le (length ops) old enough in omega arith)

  oldest_more : front (joined (transactions n log oldest ++ (take (length ops) old ∷ []))) ≡ cond (eqb n 0) first oldest
  unfolding transactions joined Stand
  oldest_more = ap front (joined_more (transactions n log oldest) (take (length ops) old)) ∙ go n (oldest_is n log used oldest first last h) x.stand
    where
      go : (k : ℕ) → front (joined (transactions k log oldest)) ≡ oldest → Stand log (transactions k log oldest) → front (joined (transactions k log oldest) ++ take (length ops) old) ≡ cond (eqb k 0) first oldest
      go zero e s = ap front (sym front_taken) ∙ front_chain (length ops) log first some
      go (suc k) e s =
          let t = records_of log oldest in
          let ts = transactions k log (next_transaction log oldest) in
          let a : suc k ≡ 0 → ⊥ = λ q. omega arith in
          let b = length-append t (joined ts) in
          let c = s.0.low in
          rw (ne_eqb (suc k) 0 a) (front_append (t ++ joined ts) (take (length ops) old) (omega arith) ∙ e)

  pub append_kept : chains_form (n + 1) (appended n log oldest first ops) (used + length ops) (cond (eqb n 0) first oldest) (front (drop (length ops) old)) (back 0 (drop (length ops) old)) ≡ true
  append_kept = rw (more, used_more, oldest_more) at (of_holds (appended n log oldest first ops) (transactions n log oldest ++ (take (length ops) old ∷ [])) (drop (length ops) old) append_lists)

  pub append_log : log_records (n + 1) (appended n log oldest first ops) (cond (eqb n 0) first oldest) ≡ log_records n log oldest ++ take (length ops) old
  append_log = (rw (more, oldest_more) at (log_lists (appended n log oldest first ops) (transactions n log oldest ++ (take (length ops) old ∷ [])) (drop (length ops) old) append_lists)) ∙ records

  pub append_free : free_records (appended n log oldest first ops) (front (drop (length ops) old)) ≡ drop (length ops) old
  append_free = free_lists (appended n log oldest first ops) (transactions n log oldest ++ (take (length ops) old ∷ [])) (drop (length ops) old) append_lists

  -- the transactions of the new log: those of the old, and the new one
  pub append_texts : transactions_from (n + 1) (appended n log oldest first ops) (cond (eqb n 0) first oldest) ≡ transactions_from n log oldest ++ (ops ∷ [])
  append_texts =
      (rw (more, oldest_more) at (shown_lists (appended n log oldest first ops) (transactions n log oldest ++ (take (length ops) old ∷ [])) (drop (length ops) old) append_lists))
      ∙ grown.shown ∙ ap (λ z. z ++ (ops ∷ [])) (sym (shown_transactions n log oldest))
