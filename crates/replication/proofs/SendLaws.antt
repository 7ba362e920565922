-- Laws of send: rows 9 and 10, and an accepted send.
use Prim.Native.Nat.{ℕ, ◌+◌, ◌-◌, ◌≤◌}
use mathlib.Core.Path.{◌≡◌, refl, sym, ◌∙◌}
use mathlib.Core.List.{[], ◌∷◌, ◌++◌}
use native.Mathlib.Omega.{arith}
use borrow.Author.Tests.{eq-eqb, ne_eqb}
use Rattle.replication.specs.Answer.{refused, done}
use Rattle.replication.specs.Memory.{Memory, nth}
use Rattle.replication.specs.Rows.{stopped, memory_rows, studio_row, window_rows, send_stop}
use Rattle.replication.specs.Calls.{after, send, with_sent}
use Rattle.replication.specs.declared.control.Control.{Control}
use Rattle.replication.proofs.RowLaws.{unless_stopped, unless_accepted}
use Rattle.replication.proofs.DecideLaws.{KnownStudio, accepted, first_formed, first_who, known_studio}
use Rattle.replication.proofs.Accepted.{send_passed}
use Rattle.replication.proofs.Formed.{Formed, Counts, counts_of, few}

-- rows 9 and 10
module _ (sent applied commits : ℕ) where
  pub all_sent : sent ≡ commits → 9 ≡ stopped (window_rows sent applied commits)
  unfolding stopped
  all_sent e = rw (eq-eqb sent commits e)

  pub window_full : (sent ≡ commits → ⊥) → sent - applied ≡ 32 → 10 ≡ stopped (window_rows sent applied commits)
  unfolding stopped
  window_full n e = rw (ne_eqb sent commits n, eq-eqb (sent - applied) 32 e)

  pub may_send : (sent ≡ commits → ⊥) → (sent - applied ≡ 32 → ⊥) → 0 ≡ stopped (window_rows sent applied commits)
  unfolding stopped
  may_send n k = rw (ne_eqb sent commits n, ne_eqb (sent - applied) 32 k)

-- the studio's counts, where memory is of the layout and row 3 does not stop the call
pub studio_counts : (c : Control) (m : Memory) (i : ℕ) → Formed c m → KnownStudio c.studios i → ((1 ≤ i) × (i ≤ 4)) × Counts c i
studio_counts c m i f r =
    let l : c.studios ≤ 4 = few c m f in
    let high : i ≤ 4 = omega (arith, r.high) in
    ((r.low, high), counts_of c i r.high (f.counts i r.low high))

-- the same, where the code has found that rows 1 to 3 do not stop the call
pub studio_known : (c : Control) (m : Memory) (i : ℕ) → 0 ≡ stopped (memory_rows c m ++ (studio_row c.studios i ∷ [])) → ((1 ≤ i) × (i ≤ 4)) × Counts c i
studio_known c m i e = studio_counts c m i (first_formed c m _ 0 e refl) (known_studio c.studios i (first_who c m _ 0 e refl))

-- the whole call
module _ (c : Control) (m : Memory) (i v : ℕ) (e : v ≡ send_stop c m i) where
  pub send_refused : (v ≡ 0 → ⊥) → after (refused v) c m [] ≡ send c m i
  unfolding send
  send_refused n = rw e (unless_stopped _ _ _ (λ z. n (e ∙ z)))

  pub send_known : v ≡ 0 → ((1 ≤ i) × (i ≤ 4)) × (nth c.sent i ≤ 65535)
  unfolding send_stop
  send_known z =
      let a = accepted c m _ (sym e ∙ z) in
      let k = studio_counts c m i a.0 (send_passed c.studios i (nth c.sent i) (nth c.applied i) c.commits a.1).who in
      (k.0, omega (arith, k.1.known, a.0.control.few))

  pub send_accepted : v ≡ 0 → (n : ℕ) → n ≡ nth c.sent i + 1 → (next : Control) → next ≡ with_sent c i n → after (done n) next m [] ≡ send c m i
  unfolding send
  send_accepted z n k next q = rw (q, k) (unless_accepted _ _ _ (sym e ∙ z))
