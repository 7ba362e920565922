-- Each operation of the transactions that are not retired met its cart in the right state: so it stays with every call, and load asks just that of the machine.
use Prim.Native.Nat.{ℕ, suc, ◌+◌, ◌<◌}
use native.Mathlib.Omega.{arith}
use native.Mathlib.Numerals.{add-one}
use mathlib.Core.Path.{◌≡◌, refl}
use mathlib.Core.Bool.{Bool, true, false, ◌&&◌, not}
use mathlib.Core.List.{List, [], ◌∷◌, ◌++◌}
use lib.ListN.{length, drop, get_or}
use lib.Seq.{drop-append-le, drop-cons}
use Rattle.carts.specs.Operation.{meets_all, act_all, operations_of}
use Rattle.carts.specs.Transaction.{Transaction, replay, L, met_from}
use Rattle.carts.proofs.TestLaws.{and_left, and_right}
use Rattle.replication.specs.Answer.{done}
use Rattle.replication.specs.Rows.{row, stopped, unless, load_rows}
use Rattle.replication.specs.Call.{Call}
use Rattle.machine.specs.Machine.{Machine, Step, step, refusal, commits, kept, load, call, after_calls, fresh}
use Rattle.machine.proofs.Libraries.{L-rest, L-next, L-before}
use Rattle.machine.proofs.Sound.{Sound}
use Rattle.machine.proofs.Grows.{log_case}
use Rattle.machine.proofs.Kept.{keeps, after_keeps}

-- 02, S-9: from L(retired) on, "from the sixth"
abbrev pub Met : Machine → Type 0
Met m = met_from (L m.log m.retired) (kept m) ≡ true

-- one transaction more, that meets the carts which the others made
met_snoc : (copy : List ℕ) (log : List Transaction) (t : Transaction) → met_from copy log ≡ true → meets_all (replay copy log) t ≡ true → met_from copy (log ++ (t ∷ [])) ≡ true
unfolding met_from replay
met_snoc copy [] t h e = rw e
met_snoc copy (x ∷ log) t h e =
    rw (and_left (meets_all copy x) (met_from (act_all copy x) log) h) (met_snoc (act_all copy x) log t (and_right (meets_all copy x) (met_from (act_all copy x) log) h) e)

-- and one less, the oldest
met_rest : (log : List Transaction) (n : ℕ) → n < length log → met_from (L log n) (drop n log) ≡ true → met_from (L log (n + 1)) (drop (n + 1) log) ≡ true
unfolding met_from
met_rest log n u h =
    let oldest : Transaction = get_or log n [] in
    rw (L-next log n u, add-one n)
    (and_right (meets_all (L log n) oldest) (met_from (act_all (L log n) oldest) (drop (suc n) log)) (rw (drop-cons log n [] u) at h))

keeps_met : (m : Machine) → Sound m → Met m → (x : Call) → Met (call m x).next
keeps_met m f h = log_case (λ n log. met_from (L log n) (drop n log) ≡ true) m h (λ s bytes a.
    let t : Transaction = operations_of bytes in
    rw (L-before m.log t m.retired f.retired_commits, drop-append-le m.retired m.log (t ∷ []) f.retired_commits)
    (met_snoc (L m.log m.retired) (kept m) t h (rw (L-rest m.log m.retired) a.meets))) (λ a. met_rest m.log m.retired a.some h)

pub after_met : (H : List Call) (r : Step) → Sound r.next → Met r.next → Met (after_calls r H).next
after_met H r f h = (after_keeps (λ m. Sound m × Met m) (λ m p x. (keeps m p.0 x, keeps_met m p.0 p.1 x)) H r (f, h)).1

-- load
pub load_accepts : (m : Machine) → Met m → load m ≡ step (done (commits m)) m []
unfolding load load_rows stopped unless
load_accepts m h = rw h

pub load_met : (m : Machine) (n : ℕ) → (load m).answer ≡ done n → Met m
unfolding load load_rows stopped unless
load_met m n e = go (met_from (L m.log m.retired) (kept m)) e
  where
    go : (b : Bool) → (unless (stopped (row 19 (not (true && b)) ∷ [])) (refusal m []) (step (done (commits m)) m [])).answer ≡ done n → b ≡ true
    go true e = refl
    go false e = let z : ◌≡◌ {A = ℕ} 0 1 = cc in absurd (omega arith)

pub fresh_met : (studios : ℕ) (bytes : List ℕ) → Met (fresh studios bytes)
unfolding fresh met_from
fresh_met studios bytes = refl
