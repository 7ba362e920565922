-- L(n): its length, and the library of a part of a log, of a log that grows and of one transaction more.
use Prim.Native.Nat.{ℕ, zero, suc, ◌+◌, ◌-◌, ◌≤◌, ◌<◌}
use native.Mathlib.Omega.{arith}
use native.Mathlib.Numerals.{add-one}
use mathlib.Core.Path.{◌≡◌, refl, sym, ap, ◌∙◌}
use mathlib.Core.List.{List, [], ◌∷◌, ◌++◌}
use lib.ListN.{length, take, drop, get_or, take-append-drop}
use lib.Seq.{take-append-le, take-length, take-take, take-suc, get_or-append_seam, take-nil}
use Rattle.carts.specs.Bytes.{zeros}
use Rattle.carts.specs.Cart.{copy_size}
use Rattle.carts.specs.Operation.{act_all}
use Rattle.carts.specs.Transaction.{Transaction, replay, L}
use Rattle.carts.proofs.ZeroLaws.{length_zeros}
use Rattle.carts.proofs.OperationLaws.{Operations, length_act_all}
use Rattle.machine.proofs.Sort.{All, length_snoc}

length_replay : (copy : List ℕ) (log : List Transaction) (n : ℕ) → All Operations log → length copy ≡ copy_size → length (replay copy (take n log)) ≡ copy_size
unfolding replay
length_replay copy log zero f e = e
length_replay copy [] (suc n) f e = e
length_replay copy (t ∷ log) (suc n) f e = length_replay (act_all copy t) log n f.1 (length_act_all t copy e f.0)

-- a copy that stands for L(n) is a copy's bytes
pub length_L : (log : List Transaction) (n : ℕ) → All Operations log → length (L log n) ≡ copy_size
unfolding L
length_L log n f = length_replay (zeros copy_size) log n f (length_zeros copy_size)

replay_append : (copy : List ℕ) (log more : List Transaction) → replay copy (log ++ more) ≡ replay (replay copy log) more
unfolding replay
replay_append copy [] more = refl
replay_append copy (x ∷ log) more = replay_append (act_all copy x) log more

-- the first n transactions make the libraries up to L(n), and the others, acting on L(n), the last
pub L-first : (log : List Transaction) (n k : ℕ) → k ≤ n → L (take n log) k ≡ L log k
unfolding L
L-first log n k u = ap (replay (zeros copy_size)) (take-take k n log u)

pub L-rest : (log : List Transaction) (n : ℕ) → replay (L log n) (drop n log) ≡ L log (length log)
unfolding L
L-rest log n = sym (replay_append (zeros copy_size) (take n log) (drop n log)) ∙ ap (replay (zeros copy_size)) (take-append-drop n log ∙ sym (take-length log))

-- L(n) goes on from L(r)
take_split : (r n : ℕ) (log : List Transaction) → r ≤ n → take n log ≡ take r log ++ take (n - r) (drop r log)
take_split zero n log l = let e : n ≡ n - 0 = omega arith in ap (λ (k : ℕ). take k log) e
take_split (suc r) zero log l = absurd (omega arith)
take_split (suc r) (suc n) [] l = sym (take-nil (suc n - suc r))
take_split (suc r) (suc n) (t ∷ log) l = let e : n - r ≡ suc n - suc r = omega arith in
    ap (λ (z : List Transaction). t ∷ z) (take_split r n log (omega arith) ∙ ap (λ (k : ℕ). take r log ++ take k (drop r log)) e)

pub L-from : (log : List Transaction) (r n : ℕ) → r ≤ n → L log n ≡ replay (L log r) (take (n - r) (drop r log))
unfolding L
L-from log r n l = ap (replay (zeros copy_size)) (take_split r n log l) ∙ replay_append (zeros copy_size) (take r log) (take (n - r) (drop r log))

-- transaction n + 1 acts on L(n)
pub L-next : (log : List Transaction) (n : ℕ) → n < length log → L log (n + 1) ≡ act_all (L log n) (get_or log n [])
unfolding L replay
L-next log n u = rw (add-one n, take-suc log n []) (replay_append (zeros copy_size) (take n log) (get_or log n [] ∷ []))

-- a commit leaves what was there
pub L-before : (log : List Transaction) (t : Transaction) (n : ℕ) → n ≤ length log → L (log ++ (t ∷ [])) n ≡ L log n
unfolding L
L-before log t n u = ap (replay (zeros copy_size)) (take-append-le n log (t ∷ []) u)

-- and adds its own
pub L-after : (log : List Transaction) (t : Transaction) → L (log ++ (t ∷ [])) (length log + 1) ≡ act_all (L log (length log)) t
L-after log t =
    let u : length log ≤ length log = omega arith in
    L-next (log ++ (t ∷ [])) (length log) (rw (length_snoc log t) (omega arith)) ∙ rw (L-before log t (length log), get_or-append_seam log t [] [])
