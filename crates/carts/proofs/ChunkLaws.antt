-- Laws of a loop over the operations in a slice: its parts of 80 bytes by chunks_exact, of which i have been passed.
use Rattle.std.proofs.Common.{◌≡◌, ℕ, zero, suc, ◌+◌, ◌*◌, ◌/◌, ◌<◌, ◌≤◌, List, ◌++◌, length, take, drop, length-drop, length-append, Some, None, Bor, sym, ap, ◌∙◌, arith}
use Rattle.std.specs.declared.slice.ChunksExact.{ChunksExact}
use Rattle.std.specs.Slice.Iter.{chunks_exact_rest, chunks_exact_size, chunks_exact_steps}
use lib.Seq.{take_at, drop_at}
use Rattle.carts.proofs.RecordLaws.{drop_next}

-- the iterator after i parts
pub record Passed (i : ℕ) (s : List ℕ) (a : ChunksExact ℕ) : Type 0 where
  pub size : chunks_exact_size a ≡ 80
  pub rest : chunks_exact_rest a ≡ drop (80 * i) s

-- a turn: the next part, and the iterator after it
pub record Turn (i : ℕ) (s x : List ℕ) (b : ChunksExact ℕ) : Type 0 where
  pub part : x ≡ take 80 (drop (80 * i) s)
  pub size : length x ≡ 80
  pub below : i < length s / 80
  pub passed : Passed (i + 1) s b

pub chunk_turn : (i : ℕ) (s : List ℕ) (a b : ChunksExact ℕ) (x : Bor (List ℕ)) → Passed i s a → chunks_exact_steps a (Some x) b → Turn i s x.now b
chunk_turn i s a b x p h =
    let left = chunks_exact_rest b in
    let n : length x.now ≡ 80 = h.1.1 ∙ p.size in
    let w : drop (80 * i) s ≡ x.now ++ left = sym p.rest ∙ h.1.0 in
    let l : length (drop (80 * i) s) ≡ length x.now + length left = ap length w ∙ length-append x.now left in
    record {
      part = sym (ap (take 80) w ∙ take_at x.now left 80 n);
      size = n;
      below = omega (arith, l, n, length-drop (80 * i) s);
      passed = record { size = h.0 ∙ p.size; rest = sym (sym (drop_next 80 i s) ∙ ap (drop 80) w ∙ drop_at x.now left 80 n) };
    }

-- its end; and that of a loop over the first n, of which m are left
pub chunk_end : (i : ℕ) (s : List ℕ) (a b : ChunksExact ℕ) → Passed i s a → chunks_exact_steps a None b → length s / 80 ≤ i
chunk_end i s a b p h =
    let l : length (drop (80 * i) s) < 80 = rw (← p.rest, ← p.size) h.1.0 in
    omega (arith, l, length-drop (80 * i) s)

pub first_end : (m n i : ℕ) (s : List ℕ) (a b : ChunksExact ℕ) → Passed i s a → (0 < m → chunks_exact_steps a None b) → m + i ≡ n → n ≤ length s / 80 → i ≡ n
first_end zero n i s a b p h e l = omega arith
first_end (suc m) n i s a b p h e l = let k = chunk_end i s a b p (h (omega arith)) in omega arith
