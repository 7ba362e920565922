-- Laws of load: what the test of the copies says of each, the row that stops a load, and the whole call.
use Prim.Native.Nat.{ℕ, ◌+◌, ◌-◌, ◌≤◌}
use mathlib.Core.Path.{◌≡◌, refl, sym, ap, ◌∙◌}
use mathlib.Core.Bool.{Bool, true, false, ◌&&◌, not}
use mathlib.Core.List.{List, [], ◌∷◌}
use native.Mathlib.Omega.{arith}
use native.Mathlib.Decide.{ℕ_discrete}
use lib.Dec.{eqb}
use lib.ListN.{take}
use lib.Seq.{take_all}
use borrow.Author.Tests.{not-false}
use Rattle.carts.specs.Bytes.{every, pairwise}
use Rattle.carts.specs.Transaction.{Transaction, replay, LFrom, met_from}
use Rattle.carts.proofs.TestLaws.{and_left, and_right, and_both, same_truth, all_at, all_cons, all_nil, pairwise_eq, pairwise_refl}
use Rattle.replication.specs.Memory.{Memory, copy_at, nth}
use Rattle.edit_log.specs.Log.{up_from}
use Rattle.replication.specs.Log.{log_count, logged}
use Rattle.replication.specs.Answer.{refused, done}
use Rattle.replication.specs.Rows.{stopped, memory_rows, load_rows, copies_form, load_stop}
use Rattle.replication.specs.Calls.{After, after, load}
use Rattle.replication.specs.Values.{are_level, whole_from}
use Rattle.replication.specs.declared.control.Control.{Control}
use Rattle.replication.proofs.RowLaws.{row_stops, row_passes, passed, decides, unless_stopped, unless_accepted, unless_case, memory_numbered}
use Rattle.replication.proofs.DecideLaws.{accepted}
use Rattle.replication.proofs.Formed.{Formed, Counts, counts_of, few, retired_known}
use Rattle.replication.proofs.LevelLaws.{level_at_law, at_level}
use Rattle.replication.proofs.LoadWalk.{replay_none, Made, walk_made, made_walk}
use Rattle.replication.proofs.LogLaws.{log_inside}
use Rattle.edit_log.proofs.OnceLaws.{up_from_every, every_up_from}
use Rattle.edit_log.proofs.TransactionLaws.{length_transactions}

-- the whole call
module _ (c : Control) (m : Memory) (v : ℕ) (e : v ≡ load_stop c m) where
  pub load_refused : (v ≡ 0 → ⊥) → after (refused v) c m [] ≡ load c m
  unfolding load
  load_refused n = rw e (unless_stopped _ _ _ (λ z. n (e ∙ z)))

  pub load_accepted : v ≡ 0 → after (done c.commits) c m [] ≡ load c m
  unfolding load
  load_accepted z = unless_accepted _ _ _ (sym e ∙ z)

-- what the test of the copies says of each
pub record Copies (c : Control) (library : List ℕ) (log : List Transaction) : Type 0 where
  pub primary : copy_at library 0 ≡ LFrom (copy_at library 5) c.retired log c.commits
  pub replicas : (i : ℕ) → 1 ≤ i → i ≤ c.studios → copy_at library i ≡ LFrom (copy_at library 5) c.retired log (nth c.applied i)

module _ (c : Control) (library : List ℕ) (log : List Transaction) where
  abbrev made : ℕ → List ℕ
  made = LFrom (copy_at library 5) c.retired log

  copy_tests : List Bool
  copy_tests = pairwise eqb (copy_at library 0) (made c.commits) ∷ every (λ i. pairwise eqb (copy_at library i) (made (nth c.applied i))) (up_from 1 c.studios) ∷ []

  pub copies_of : copies_form c library log ≡ true → Copies c library log
  unfolding copies_form copy_tests
  copies_of h = record {
    primary = pairwise_eq _ _ (all_at 0 copy_tests h);
    replicas = λ i l g. pairwise_eq _ _ (every_up_from (λ i. pairwise eqb (copy_at library i) (made (nth c.applied i))) 1 c.studios (all_at 1 copy_tests h) i l (omega arith));
  }

  pub of_copies : Copies c library log → copies_form c library log ≡ true
  unfolding copies_form
  of_copies x = all_cons _ _ (rw x.primary (pairwise_refl _))
      (all_cons _ _ (up_from_every _ 1 c.studios (λ i l g. rw (x.replicas i l (omega arith)) (pairwise_refl _))) all_nil)

-- the whole walk, from the sixth copy
module _ (c : Control) (m : Memory) (f : Formed c m) where
  abbrev base : List ℕ
  base = copy_at m.library 5

  abbrev log : List Transaction
  log = logged c m.log

  abbrev level : Bool
  level = are_level c m.library base c.retired

  abbrev whole : Bool
  whole = whole_from c m.library m.log (log_count c) c.retired c.oldest base

  abbrev walked : Bool
  walked = level && whole

  abbrev Walked : Type 0
  Walked = Made c m.library m.log f.log.size (log_count c) c.retired c.oldest base

  counts : (i : ℕ) → 1 ≤ i → i ≤ c.studios → Counts c i
  counts i l g = counts_of c i g (f.counts i l (let n = few c m f in omega arith))

  known : (i : ℕ) → 1 ≤ i → i ≤ c.studios → nth c.applied i ≤ c.retired + log_count c
  unfolding log_count
  known i l g = let n = counts i l g in let k = retired_known c m f in omega (arith, n.order, n.known)

  everything : LFrom base c.retired log c.commits ≡ replay base log
  unfolding LFrom log_count
  everything = ap (replay base) (take_all (c.commits - c.retired) log (let n = length_transactions (c.commits - c.retired) m.log c.oldest in omega arith))

  some : (k : ℕ) → replay base (take (k - c.retired) log) ≡ LFrom base c.retired log k
  unfolding LFrom
  some k = refl

  -- nothing more has acted than what is retired
  nothing_more : (k : ℕ) → k ≡ c.retired → base ≡ LFrom base c.retired log k
  nothing_more k e = let z : k - c.retired ≡ 0 = omega arith in replay_none base log ∙ ap (λ (n : ℕ). replay base (take n log)) (sym z) ∙ some k

  walked_copies : level ≡ true → Walked → Copies c m.library log
  walked_copies h x = record { primary = x.primary ∙ sym everything; replicas = λ i l g. replica i l g (ℕ_discrete (nth c.applied i) c.retired) }
    where
      replica : (i : ℕ) → 1 ≤ i → i ≤ c.studios → Dec (nth c.applied i ≡ c.retired) → copy_at m.library i ≡ LFrom base c.retired log (nth c.applied i)
      replica i l g (yes e) = level_at_law c m.library base c.retired h i l g e ∙ nothing_more (nth c.applied i) e
      replica i l g (no e) = x.replicas i l g (let n = counts i l g in omega (arith, n.kept)) ∙ some (nth c.applied i)

  copies_level : Copies c m.library log → level ≡ true
  copies_level x = at_level c m.library base c.retired (λ i l g e. x.replicas i l g ∙ sym (nothing_more (nth c.applied i) e))

  copies_walked : Copies c m.library log → met_from base log ≡ true → Walked
  copies_walked x met = record { met = met; primary = x.primary ∙ everything; replicas = λ i l g u. x.replicas i l g ∙ sym (some (nth c.applied i)) }

  pub walk_whole : walked ≡ (copies_form c m.library log && met_from base log)
  walk_whole = same_truth walked (copies_form c m.library log && met_from base log)
      (λ h.
      let x = walk_made c m.library m.log f.log.size (log_count c) c.retired c.oldest base (log_inside c m f) known (and_right level whole h) in
      and_both _ _ (of_copies c m.library log (walked_copies (and_left level whole h) x)) x.met)
      (λ h.
      let x = copies_of c m.library log (and_left (copies_form c m.library log) (met_from base log) h) in
      and_both _ _ (copies_level x)
      (made_walk c m.library m.log f.log.size (log_count c) c.retired c.oldest base (log_inside c m f) (copies_walked x (and_right (copies_form c m.library log) (met_from base log) h))))

  -- the row that stops a load after 1 and 2, by what the walk found
  pub not_whole : (v : ℕ) → v ≡ stopped (memory_rows c m) → v ≡ 0 → walked ≡ false → 19 ≡ load_stop c m
  unfolding load_stop load_rows
  not_whole v e z h = decides (memory_rows c m) _ v 19 (memory_numbered c m) e z (row_stops 19 _ [] (rw (sym walk_whole ∙ h)))

  pub all_whole : (v : ℕ) → v ≡ stopped (memory_rows c m) → v ≡ 0 → walked ≡ true → 0 ≡ load_stop c m
  unfolding load_stop load_rows stopped
  all_whole v e z h = decides (memory_rows c m) _ v 0 (memory_numbered c m) e z (sym (row_passes 19 (not (copies_form c m.library log && met_from base log)) [] (rw (sym walk_whole ∙ h))))

-- an accepted load: the layout, the copies, and the states that the logged operations met
pub record Loads (c : Control) (m : Memory) : Type 0 where
  pub formed : Formed c m
  pub copies : Copies c m.library (logged c m.log)
  pub met : met_from (copy_at m.library 5) (logged c m.log) ≡ true

pub load_passed : (c : Control) (m : Memory) (n : ℕ) → (load c m).answer ≡ done n → Loads c m
unfolding load load_stop load_rows
load_passed c m n = unless_case (λ (r : After). r.answer ≡ done n → Loads c m) (load_stop c m) _ _
    (λ k e a. let z : ◌≡◌ {A = ℕ} 0 1 = cc in absurd (omega arith)) (λ e a. passes e)
  where
    passes : load_stop c m ≡ 0 → Loads c m
    passes e =
        let (f, rows) = accepted c m (load_rows (copies_form c m.library (logged c m.log)) (copy_at m.library 5) (logged c m.log)) e in
        let both = not-false _ (passed 18 (not (copies_form c m.library (logged c m.log) && met_from (copy_at m.library 5) (logged c m.log))) [] rows).0 in
        record {
          formed = f;
          copies = copies_of c m.library (logged c m.log) (and_left (copies_form c m.library (logged c m.log)) (met_from (copy_at m.library 5) (logged c m.log)) both);
          met = and_right (copies_form c m.library (logged c m.log)) (met_from (copy_at m.library 5) (logged c m.log)) both;
        }
