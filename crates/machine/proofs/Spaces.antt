-- Titles that differ by a space (02, S-2), on the plain machine: refused where a commit would write one, as before where one is stored or asked for, by
-- computation; and a log of accepted commits has none, so that no library that it makes has one.
use Prim.Native.Nat.{ℕ, zero, suc}
use mathlib.Core.Path.{◌≡◌, refl}
use mathlib.Core.List.{List, [], ◌∷◌, ◌++◌}
use lib.ListN.{length, take, set}
use Rattle.carts.specs.Bytes.{zeros}
use Rattle.carts.specs.Cart.{copy_size}
use Rattle.carts.specs.Operation.{operations_of, act_all}
use Rattle.carts.specs.Transaction.{Transaction, replay, L}
use Rattle.carts.proofs.ZeroLaws.{length_zeros}
use Rattle.carts.proofs.OperationLaws.{Operations, length_act_all}
use Rattle.carts.proofs.SpaceLaws.{UnspacedCopy, UnspacedOperations, acts_unspaced, zeros_unspaced}
use Rattle.replication.specs.Answer.{refused, done, answered}
use Rattle.replication.specs.Call.{Call, commit, preview, send, refresh, read}
use Rattle.machine.specs.Machine.{Machine, Step, step, with_log, fresh, setup, call, after_calls}
use Rattle.machine.specs.OneCopy.{Event, event}
use Rattle.machine.specs.Table.{top_hour_a, payload, new, A, withdraw7, seven, title_read, buffer, holding, calls_of}
use Rattle.machine.proofs.Sort.{All, all_snoc}
use Rattle.machine.proofs.Entries.{plain_history}
use Rattle.machine.proofs.Sound.{setup_case}
use Rattle.machine.proofs.Kept.{after_keeps}
use Rattle.machine.proofs.Grows.{log_case}
use Rattle.machine.proofs.Table.{start, computed}

-- " Top hour A", "Top hour A " and " "
unfoldable pub begins : List ℕ
begins = 32 ∷ top_hour_a

unfoldable pub ends : List ℕ
ends = top_hour_a ++ (32 ∷ [])

unfoldable pub only : List ℕ
only = 32 ∷ []

-- a fresh system: 16 in commit and preview, in the last operation too, before 8 and after 6; a title read that asks for such a title is answered; spaces
-- inside a title are no matter
unfoldable pub spacing : List Event
spacing =
    event (commit 1 (new 7 begins)) (refused 16) []
    ∷ event (commit 1 (new 7 ends)) (refused 16) []
    ∷ event (preview 1 (new 7 only)) (refused 16) []
    ∷ event (commit 1 (new 8 top_hour_a ++ new 8 ends)) (refused 16) []
    ∷ event (commit 1 (new 7 begins ++ set A 1 65)) (refused 6) []
    ∷ event (read 1 (title_read begins) buffer) (answered 0 0) (holding (zeros 80))
    ∷ event (commit 1 A) (done 1) []
    ∷ []

pub spaces_refused : plain_history start (calls_of spacing) ≡ spacing
unfolding computed title_read begins ends only spacing
spaces_refused = refl

-- a system whose one transaction, from before S-2, made cart 7 with such a title
unfoldable pub stored : Step
stored = step (done 0) (with_log start.next ((new 7 begins ∷ []) ∷ [])) []

unfoldable pub retitle7 : List ℕ → List ℕ
retitle7 title = 2 ∷ length title ∷ 7 ∷ zeros 13 ++ payload title

-- to audio 502 (246 + 256) and 9,000 ms (40 + 35 × 256); and the cart that has it
unfoldable pub recut7 : List ℕ
recut7 = 3 ∷ 0 ∷ 7 ∷ 0 ∷ 246 ∷ 1 ∷ 0 ∷ 0 ∷ 40 ∷ 35 ∷ zeros 70

unfoldable pub cut7 : List ℕ → List ℕ
cut7 title = set (set (set (new 7 title) 4 246) 8 40) 9 35

-- it is sent, refreshed, read and matched; the cart is re-cut, retitled to a title without the space (not to the one that it has), and withdrawn
unfoldable pub keeping : List Event
keeping =
    event (send 1) (done 1) []
    ∷ event (refresh 1) (done 1) []
    ∷ event (read 1 seven buffer) (answered 1 1) (holding (new 7 begins))
    ∷ event (read 1 (title_read begins) buffer) (answered 1 1) (holding (new 7 begins))
    ∷ event (read 1 (title_read top_hour_a) buffer) (answered 1 0) (holding (zeros 80))
    ∷ event (commit 1 (retitle7 begins)) (refused 16) []
    ∷ event (commit 1 recut7) (done 2) []
    ∷ event (commit 1 (retitle7 top_hour_a)) (done 3) []
    ∷ event (commit 1 withdraw7) (done 4) []
    ∷ event (send 1) (done 2) []
    ∷ event (send 1) (done 3) []
    ∷ event (send 1) (done 4) []
    ∷ event (refresh 1) (done 2) []
    ∷ event (read 2 seven buffer) (answered 2 1) (holding (cut7 begins))
    ∷ event (refresh 1) (done 3) []
    ∷ event (read 2 seven buffer) (answered 3 1) (holding (cut7 top_hour_a))
    ∷ event (refresh 1) (done 4) []
    ∷ event (read 1 seven buffer) (answered 4 0) (holding (zeros 80))
    ∷ []

pub stored_kept : plain_history stored (calls_of keeping) ≡ keeping
unfolding computed title_read begins stored retitle7 recut7 cut7 keeping
stored_kept = refl

-- a call appends no transaction that row 16 stops
call_unspaced : (m : Machine) → All UnspacedOperations m.log → (x : Call) → All UnspacedOperations (call m x).next.log
call_unspaced m h = log_case (λ n. All UnspacedOperations) m h (λ s bytes a. all_snoc UnspacedOperations m.log (operations_of bytes) h a.unspaced) (λ a. h)

pub after_unspaced : (H : List Call) (r : Step) → All UnspacedOperations r.next.log → All UnspacedOperations (after_calls r H).next.log
after_unspaced = after_keeps (λ m. All UnspacedOperations m.log) call_unspaced

pub setup_unspaced : (studios : ℕ) (bytes : List ℕ) → (setup studios bytes).answer ≡ done 0 → All UnspacedOperations (setup studios bytes).next.log
unfolding fresh
setup_unspaced studios bytes accepted = setup_case (λ (r : Step). All UnspacedOperations r.next.log) studios bytes accepted (λ _ _. tt)

-- so no library has a cart with such a title
replay_unspaced : (copy : List ℕ) (log : List Transaction) (n : ℕ) → length copy ≡ copy_size → All Operations log → All UnspacedOperations log → UnspacedCopy copy → UnspacedCopy (replay copy (take n log))
unfolding replay
replay_unspaced copy log zero l f h u = u
replay_unspaced copy [] (suc n) l f h u = u
replay_unspaced copy (t ∷ log) (suc n) l f h u =
    replay_unspaced (act_all copy t) log n (length_act_all t copy l f.0) f.1 h.1 (acts_unspaced t copy l f.0 h.0 u)

pub L-unspaced : (log : List Transaction) (n : ℕ) → All Operations log → All UnspacedOperations log → UnspacedCopy (L log n)
unfolding L
L-unspaced log n f h = replay_unspaced (zeros copy_size) log n (length_zeros copy_size) f h zeros_unspaced
