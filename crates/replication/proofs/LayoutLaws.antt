-- Laws of the layout: the parts that the code lends, and the whole test from its parts.
use Prim.Native.Nat.{ℕ, ◌+◌, ◌-◌, ◌*◌, ◌≤◌, ◌<◌}
use mathlib.Core.Path.{◌≡◌, sym, ◌∙◌}
use mathlib.Core.Bool.{Bool, true, false, ◌&&◌, and-true}
use mathlib.Core.List.{List, [], ◌∷◌}
use native.Mathlib.Omega.{arith}
use lib.ListN.{length, take, drop, get_or, length-drop}
use lib.Seq.{take_all}
use lib.Dec.{leb}
use Rattle.carts.specs.Bytes.{part, within, all, every, each_part}
use Rattle.replication.specs.Memory.{Memory, copy_at}
use Rattle.edit_log.specs.Chains.{chains_form}
use Rattle.replication.specs.Log.{log_count}
use Rattle.replication.specs.Layout.{replica_form, sixth_form, session_form, counts_form, layout_tests, of_layout}
use Rattle.carts.proofs.RecordLaws.{each_more, each_done}
use Rattle.carts.proofs.TestLaws.{and_left, within_low, all_fails}
use Rattle.replication.proofs.Formed.{counts_of}
use Rattle.replication.specs.declared.control.Control.{Control}
pub use Rattle.carts.proofs.EachLaws.{lent, length_lent}

-- one test fails, counted from 0
pub layout_fails : (c : Control) (m : Memory) (n : ℕ) → get_or (layout_tests c m) n true ≡ false → false ≡ of_layout c m
unfolding of_layout
layout_fails c m n e = sym (all_fails n (layout_tests c m) e)

-- the last test decides where the others hold
pub layout_last : (c : Control) (m : Memory) (b : Bool) → b ≡ each_part (session_form c) 80 16 1 m.sessions → within 1 4 c.studios ≡ true
    → every (λ i. leb i c.studios) c.session_studios ≡ true → leb c.commits 65535 ≡ true → every (counts_form c) (1 ∷ 2 ∷ 3 ∷ 4 ∷ []) ≡ true
    → each_part (replica_form c.studios) 10240 5 0 m.library ≡ true → sixth_form c.retired (copy_at m.library 5) ≡ true
    → chains_form (log_count c) m.log c.used c.oldest c.free_first c.free_last ≡ true → b ≡ of_layout c m
unfolding of_layout layout_tests all
layout_last c m b e t0 t1 t2 t3 t4 t5 t6 = e ∙ rw (t0, t1, t2, t3, t4, t5, t6, and-true)

-- what is retired is committed, where the tests of S and of the counts hold
pub retired_first : (c : Control) → within 1 4 c.studios ≡ true → every (counts_form c) (1 ∷ 2 ∷ 3 ∷ 4 ∷ []) ≡ true → c.retired ≤ c.commits
unfolding every
retired_first c s h =
    let low = within_low 1 4 c.studios s in
    let n = counts_of c 1 low (and_left (counts_form c 1) _ h) in
    omega (arith, n.order, n.known, n.kept)

-- the bytes from `at` to the end, as the code lends them
pub rest_is : (at : ℕ) (s : List ℕ) → take (length s - at) (drop at s) ≡ drop at s
rest_is at s = let h : length (drop at s) ≤ length s - at = rw length-drop (omega arith) in take_all (length s - at) (drop at s) h

-- a turn of a loop over parts that are counted from 1, and its end
module _ (test : ℕ → List ℕ → Bool) (size n k : ℕ) (s : List ℕ) (ok : Bool) {whole : Bool} (inv : whole ≡ (ok && each_part test size (n - (k - 1)) k (drop (size * (k - 1)) s))) where
  pub each_more_from_one : {new : Bool} → 1 ≤ k → k ≤ n → new ≡ (ok && test k (part s (size * (k - 1)) size)) → whole ≡ (new && each_part test size (n - (k + 1 - 1)) (k + 1) (drop (size * (k + 1 - 1)) s))
  each_more_from_one l g e = let next : k + 1 - 1 ≡ k - 1 + 1 = omega arith in rw next (each_more test size n (k - 1) k s ok (omega arith) inv e)

  pub each_done_from_one : n < k → ok ≡ whole
  each_done_from_one h = each_done test size n (k - 1) k s ok (omega arith) inv
