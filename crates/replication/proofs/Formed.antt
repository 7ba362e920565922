-- The layout taken apart: each of its tests read part by part, and put together again.
use mathlib.Core.Path.{◌≡◌, refl}
use mathlib.Core.Bool.{Bool, true, false}
use mathlib.Core.List.{List, [], ◌∷◌}
use Prim.Native.Nat.{ℕ, zero, suc, ◌+◌, ◌-◌, ◌≤◌, ◌<◌}
use native.Mathlib.Omega.{arith}
use native.Mathlib.Decide.{dec_le}
use borrow.Author.Tests.{leb-true, le-leb, lt-leb, eqb-true, eq-eqb}
use lib.Dec.{leb, eqb}
use lib.ListN.{length, get_or}
use Rattle.carts.specs.Bytes.{within, all, every}
use Rattle.carts.specs.Cart.{copy_form}
use Rattle.replication.specs.Memory.{Memory, lengths_form, copy_at, session_at, nth, studio_of}
use Rattle.edit_log.specs.Chains.{chains_form}
use Rattle.replication.specs.Log.{log_count}
use Rattle.replication.specs.Layout.{replica_form, sixth_form, session_form, counts_form, layout_tests, of_layout}
use Rattle.replication.specs.Calls.{committed}
use Rattle.replication.specs.declared.control.Control.{Control}
use Rattle.carts.proofs.TestLaws.{all_at, all_set, all_cons, all_nil, every_at, within_low, within_high}
use Rattle.carts.proofs.EachLaws.{each_at, at_each, from_one, to_one}

-- control: S, the sessions' studios, and commits
abbrev pub ControlFormed : Control → Type 0
ControlFormed c = record {
  studios : within 1 4 c.studios ≡ true;
  places : every (λ i. leb i c.studios) c.session_studios ≡ true;
  few : c.commits ≤ 65535;
}

abbrev pub LibraryFormed : Control → List ℕ → Type 0
LibraryFormed c library = record {
  size : length library ≡ 61440;
  copies : (i : ℕ) → i ≤ 4 → replica_form c.studios i (copy_at library i) ≡ true;
  sixth : sixth_form c.retired (copy_at library 5) ≡ true;
}

abbrev pub LogFormed : Control → List ℕ → Type 0
LogFormed c log = record {
  size : length log ≡ 40960;
  chains : chains_form (log_count c) log c.used c.oldest c.free_first c.free_last ≡ true;
}

abbrev pub SessionsFormed : Control → List ℕ → Type 0
SessionsFormed c sessions = record {
  size : length sessions ≡ 1280;
  forms : (s : ℕ) → 1 ≤ s → s ≤ 16 → session_form c s (session_at sessions s) ≡ true;
}

abbrev pub CountsFormed : Control → Type 0
CountsFormed c = (i : ℕ) → 1 ≤ i → i ≤ 4 → counts_form c i ≡ true

pub record Formed (c : Control) (m : Memory) : Type 0 where
  pub control : ControlFormed c
  pub library : LibraryFormed c m.library
  pub log : LogFormed c m.log
  pub sessions : SessionsFormed c m.sessions
  pub counts : CountsFormed c

-- the four studios
studio_at : (p : ℕ → Bool) → every p (1 ∷ 2 ∷ 3 ∷ 4 ∷ []) ≡ true → (i : ℕ) → 1 ≤ i → i ≤ 4 → p i ≡ true
studio_at p h i l g = rw (is i l g) at (every_at p (1 ∷ 2 ∷ 3 ∷ 4 ∷ []) 0 (i - 1) h (omega arith))
  where
    is : (i : ℕ) → 1 ≤ i → i ≤ 4 → get_or (1 ∷ 2 ∷ 3 ∷ 4 ∷ []) (i - 1) 0 ≡ i
    is zero l g = let z : ⊥ = omega arith in absurd z
    is (suc zero) l g = refl
    is (suc (suc zero)) l g = refl
    is (suc (suc (suc zero))) l g = refl
    is (suc (suc (suc (suc zero)))) l g = refl
    is (suc (suc (suc (suc (suc i))))) l g = let z : ⊥ = omega arith in absurd z

four_studios : (p : ℕ → Bool) → ((i : ℕ) → 1 ≤ i → i ≤ 4 → p i ≡ true) → every p (1 ∷ 2 ∷ 3 ∷ 4 ∷ []) ≡ true
unfolding every
four_studios p f = rw (f 1 (omega arith) (omega arith), f 2 (omega arith) (omega arith), f 3 (omega arith) (omega arith), f 4 (omega arith) (omega arith))

pub formed : (c : Control) (m : Memory) → lengths_form m ≡ true → of_layout c m ≡ true → Formed c m
unfolding lengths_form of_layout layout_tests copy_at session_at
formed c m lengths layout = record {
  control = record { studios = test 0; places = test 1; few = leb-true _ _ (test 2) };
  library = record {
    size = eqb-true _ _ (all_at 0 sizes lengths);
    copies = λ i l. let e : 0 + i ≡ i = omega arith in rw e at (each_at (replica_form c.studios) 10240 5 0 m.library (test 4) i (omega arith));
    sixth = test 5;
  };
  log = record {
    size = eqb-true _ _ (all_at 1 sizes lengths);
    chains = test 6;
  };
  sessions = record { size = eqb-true _ _ (all_at 2 sizes lengths); forms = from_one (session_form c) 80 16 m.sessions (test 7) };
  counts = studio_at (counts_form c) (test 3);
}
  where
    test : (n : ℕ) → get_or (layout_tests c m) n true ≡ true
    test n = all_at n (layout_tests c m) layout

    sizes : List Bool
    sizes = eqb (length m.library) 61440 ∷ eqb (length m.log) 40960 ∷ eqb (length m.sessions) 1280 ∷ []

pub of_layout_law : (c : Control) (m : Memory) → Formed c m → (lengths_form m ≡ true) × (of_layout c m ≡ true)
unfolding lengths_form of_layout layout_tests copy_at session_at
of_layout_law c m f = (
  all_cons _ _ (eq-eqb _ _ f.library.size) (all_cons _ _ (eq-eqb _ _ f.log.size) (all_cons _ _ (eq-eqb _ _ f.sessions.size) all_nil)),
  all_cons _ _ f.control.studios
      (all_cons _ _ f.control.places
      (all_cons _ _ (le-leb _ _ f.control.few)
      (all_cons _ _ (four_studios (counts_form c) f.counts)
      (all_cons _ _ (at_each (replica_form c.studios) 10240 5 0 m.library (λ i l. let e : 0 + i ≡ i = omega arith in rw e (f.library.copies i (omega arith))))
      (all_cons _ _ f.library.sixth
      (all_cons _ _ f.log.chains
      (all_cons _ _ (to_one (session_form c) 80 16 m.sessions f.sessions.forms) all_nil))))))),
)

-- what a studio's counts say, where it is in use
pub record Counts (c : Control) (i : ℕ) : Type 0 where
  pub order : nth c.applied i ≤ nth c.sent i
  pub known : nth c.sent i ≤ c.commits
  pub near : nth c.sent i - nth c.applied i ≤ 32
  pub kept : c.retired ≤ nth c.applied i

module _ (c : Control) (i : ℕ) where
  count_tests : List Bool
  count_tests = leb (nth c.applied i) (nth c.sent i) ∷ leb (nth c.sent i) c.commits ∷ leb (nth c.sent i - nth c.applied i) 32 ∷ leb c.retired (nth c.applied i) ∷ []

  pub counts_of : i ≤ c.studios → counts_form c i ≡ true → Counts c i
  unfolding counts_form count_tests
  counts_of l f =
      let g : all count_tests ≡ true = rw (le-leb i c.studios l) at f in
      record { order = leb-true _ _ (all_at 0 count_tests g); known = leb-true _ _ (all_at 1 count_tests g); near = leb-true _ _ (all_at 2 count_tests g); kept = leb-true _ _ (all_at 3 count_tests g) }

  pub of_counts : i ≤ c.studios → Counts c i → counts_form c i ≡ true
  unfolding counts_form
  of_counts l f = rw (le-leb i c.studios l) (all_cons _ _ (le-leb _ _ f.order) (all_cons _ _ (le-leb _ _ f.known) (all_cons _ _ (le-leb _ _ f.near) (all_cons _ _ (le-leb _ _ f.kept) all_nil))))

  -- one commit more
  pub counts_more : (k next : ℕ) → counts_form c i ≡ true → counts_form (committed c k next) i ≡ true
  unfolding counts_form committed count_tests
  counts_more k next f = go (leb i c.studios) refl
    where
      go : (b : Bool) → leb i c.studios ≡ b → counts_form (committed c k next) i ≡ true
      go true e =
          let h : all count_tests ≡ true = rw e at f in
          let l : nth c.sent i ≤ c.commits = leb-true _ _ (all_at 1 count_tests h) in
          rw e (all_set 1 count_tests (leb (nth c.sent i) (c.commits + 1)) h (le-leb (nth c.sent i) (c.commits + 1) (omega arith)))
      go false e = rw e (rw e at f)

  -- what they say where it is not
  none_tests : List Bool
  none_tests = eqb (nth c.sent i) 0 ∷ eqb (nth c.applied i) 0 ∷ []

  pub counts_none : c.studios < i → counts_form c i ≡ true → (nth c.sent i ≡ 0) × (nth c.applied i ≡ 0)
  unfolding counts_form none_tests
  counts_none l f =
      let g : all none_tests ≡ true = rw (lt-leb i c.studios l) at f in
      (eqb-true _ _ (all_at 0 none_tests g), eqb-true _ _ (all_at 1 none_tests g))

  -- in use or not
  pub counts_known : counts_form c i ≡ true → (nth c.applied i ≤ nth c.sent i) × (nth c.sent i ≤ c.commits)
  counts_known f = go (dec_le i c.studios)
    where
      go : Dec (i ≤ c.studios) → (nth c.applied i ≤ nth c.sent i) × (nth c.sent i ≤ c.commits)
      go (yes l) = let n = counts_of l f in (n.order, n.known)
      go (no l) = let (s, a) = counts_none (omega arith) f in (omega arith, omega arith)

  pub applied_known : counts_form c i ≡ true → nth c.applied i ≤ c.commits
  applied_known f = let (o, k) = counts_known f in omega arith

-- a studio that is not in use: another control with its counts, and as many studios
pub none_kept : (c d : Control) (i : ℕ) → c.studios < i → d.studios ≡ c.studios → d.sent ≡ c.sent → d.applied ≡ c.applied → counts_form c i ≡ true → counts_form d i ≡ true
unfolding counts_form
none_kept c d i l s t a f = rw (s, t, a, lt-leb i c.studios l) (rw (lt-leb i c.studios l) at f)

-- at most four studios; a session's studio is one of them, or 0
module _ (c : Control) (m : Memory) (f : Formed c m) where
  pub few : c.studios ≤ 4
  few = within_high 1 4 c.studios f.control.studios

  -- what is retired was applied by studio 1, and so was committed
  pub retired_known : c.retired ≤ c.commits
  retired_known =
      let s = within_low 1 4 c.studios f.control.studios in
      let n = counts_of c 1 s (f.counts 1 (omega arith) (omega arith)) in
      omega (arith, n.order, n.known, n.kept)

  pub studio_known : (s : ℕ) → length c.session_studios ≡ 16 → s ≤ 16 → studio_of c s ≤ c.studios
  unfolding studio_of
  studio_known s n l = leb-true _ _ (every_at (λ i. leb i c.studios) c.session_studios 0 (s - 1) f.control.places (omega arith))

-- a copy in use
pub studio_copy : (studios i : ℕ) (copy : List ℕ) → i ≤ studios → copy_form copy ≡ true → replica_form studios i copy ≡ true
unfolding replica_form
studio_copy studios i copy l f = rw (le-leb i studios l) f

pub copy_in_use : (studios i : ℕ) (copy : List ℕ) → i ≤ studios → replica_form studios i copy ≡ true → copy_form copy ≡ true
unfolding replica_form
copy_in_use studios i copy l f = rw (le-leb i studios l) at f
