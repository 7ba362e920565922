-- Laws of the writer: its rows, and what it writes where none stops it.
use mathlib.Core.Path.{◌≡◌, refl, sym, ap, ◌∙◌}
use mathlib.Core.Bool.{Bool, true, false, cond, not}
use mathlib.Core.List.{List, [], ◌∷◌, ◌++◌, map, append_assoc}
use Prim.Native.Nat.{ℕ, ◌+◌, ◌-◌, ◌*◌, ◌<◌, ◌≤◌}
use native.Mathlib.Omega.{arith}
use native.Mathlib.Nat.{add-sub_cancel_left}
use lib.ListN.{length, take, drop}
use lib.Dec.{ltb}
use borrow.Author.Tests.{not-false, lt-ltb, le-ltb}
use Rattle.carts.specs.Bytes.{u16_bytes, over, within, every}
use Rattle.carts.proofs.PartLaws.{length_part}
use Rattle.carts.proofs.TestLaws.{within_low, within_high}
use Rattle.replication.specs.Answer.{refused, done}
use Rattle.replication.specs.Memory.{Memory}
use Rattle.replication.specs.Log.{log_count, transaction_after}
use Rattle.edit_log.specs.Log.{walk, records_of, transaction_at, handed_in}
use Rattle.replication.specs.Message.{joined, message_of, message_in}
use Rattle.replication.specs.Rows.{Row, row, stopped, unless, memory_rows, write_rows, write_stop}
use Rattle.replication.specs.Calls.{after, write}
use Rattle.edit_log.specs.Values.{usable, walkable}
use Rattle.replication.specs.declared.control.Control.{Control}
use Rattle.replication.proofs.RowLaws.{row_stops, row_passes, wider, passed, later_stops, decides, memory_numbered, unless_stopped}
use Rattle.replication.proofs.DecideLaws.{accepted}
use Rattle.replication.proofs.OutputLaws.{over_beside}
use Rattle.replication.proofs.LogLaws.{log_walkable, transaction_usable, transaction_length, transaction_operations}
use Rattle.replication.proofs.Formed.{Formed}
use Rattle.edit_log.proofs.TransactionLaws.{length_handed_in, handed_operations}
use Rattle.replication.proofs.MessageLaws.{length_joined, not_retired}

-- the part of output that the operations are written to
pub length_places : (s out : List ℕ) (count : ℕ) → length s ≡ length out → 4 + 80 * count ≤ length out → length (take (4 + 80 * count - 4) (drop 4 s)) ≡ 80 * count
length_places s out count e h = length_part s 4 (4 + 80 * count - 4) (omega arith) ∙ add-sub_cancel_left 4 (80 * count)

-- row 21, and row 17 as far as it looks at the number
abbrev retired_row : ℕ → ℕ → Row
retired_row retired n = row 21 (within 1 retired n)

abbrev number_row : ℕ → ℕ → Row
number_row commits n = row 17 (not (within 1 commits n))

abbrev pub number_rows : Control → ℕ → List Row
number_rows c n = retired_row c.retired n ∷ number_row c.commits n ∷ []

-- where memory does not stop the writer: v is what the code has found of it
module _ (c : Control) (m : Memory) (n v : ℕ) (e : v ≡ stopped (memory_rows c m)) (z : v ≡ 0) where
  pub number_retired : within 1 c.retired n ≡ true → 21 ≡ stopped (memory_rows c m ++ number_rows c n)
  number_retired h = decides (memory_rows c m) (number_rows c n) v 21 (memory_numbered c m) e z (row_stops 21 _ _ h)

  module _ (k : within 1 c.retired n ≡ false) where
    own : (w : ℕ) → w ≡ stopped (number_row c.commits n ∷ []) → w ≡ stopped (memory_rows c m ++ number_rows c n)
    own w h = decides (memory_rows c m) (number_rows c n) v w (memory_numbered c m) e z (h ∙ sym (row_passes 21 _ _ k))

    pub number_wrong : within 1 c.commits n ≡ false → 17 ≡ stopped (memory_rows c m ++ number_rows c n)
    unfolding stopped
    number_wrong h = own 17 (rw h)

    pub number_right : within 1 c.commits n ≡ true → 0 ≡ stopped (memory_rows c m ++ number_rows c n)
    unfolding stopped
    number_right h = own 0 (rw h)

-- what is known of the number, the log and the transaction where neither memory nor the number stops the writer
pub record Writable (c : Control) (m : Memory) (n : ℕ) : Type 0 where
  pub low : 1 ≤ n
  pub few : n ≤ 65535
  pub kept : c.retired ≤ n - 1
  pub log : length m.log ≡ 40960
  pub walks : walkable (n - 1 - c.retired) m.log c.oldest ≡ true
  pub acts : every (usable m.log) (records_of m.log (walk (n - 1 - c.retired) m.log c.oldest)) ≡ true
  pub short : length (records_of m.log (walk (n - 1 - c.retired) m.log c.oldest)) ≤ 8

module _ (c : Control) (m : Memory) (n : ℕ) (out : List ℕ) (v : ℕ) (e : v ≡ stopped (memory_rows c m ++ number_rows c n)) where
  -- by memory or by the number
  pub write_refused : (v ≡ 0 → ⊥) → after (refused v) c m out ≡ write c m n out
  unfolding write write_stop write_rows
  write_refused h =
      let first : List Row = memory_rows c m ++ (retired_row c.retired n ∷ []) in
      let f = wider first 17 (not (within 1 c.commits n)) (ltb (length out) (length (message_in c m.log n))) v (e ∙ ap stopped (sym (append_assoc (memory_rows c m) (retired_row c.retired n ∷ []) _))) h
      ∙ ap stopped (append_assoc (memory_rows c m) (retired_row c.retired n ∷ []) _) in
      rw f (unless_stopped _ _ _ (λ z. h (f ∙ z)))

  module _ (z : v ≡ 0) where
    formed : Formed c m
    formed = (accepted c m (number_rows c n) (sym e ∙ z)).0

    by_number : (within 1 c.retired n ≡ false) × (stopped (number_row c.commits n ∷ []) ≡ 0)
    by_number = passed 20 (within 1 c.retired n) _ (accepted c m (number_rows c n) (sym e ∙ z)).1

    known_number : within 1 c.commits n ≡ true
    known_number = not-false _ (passed 16 _ [] by_number.1).0

    before : n - 1 < c.commits
    before = omega (arith, within_low 1 c.commits n known_number, within_high 1 c.commits n known_number)

    -- the transaction is in the log
    in_log : c.retired ≤ n - 1
    in_log = let l = not_retired c.retired n (within_low 1 c.commits n known_number) by_number.0 in omega arith

    inside : n - 1 - c.retired ≤ log_count c
    unfolding log_count
    inside = omega (arith, before)

    pub write_known : Writable c m n
    write_known = record {
      low = within_low 1 c.commits n known_number;
      few = omega (arith, within_high 1 c.commits n known_number, formed.control.few);
      kept = in_log;
      log = formed.log.size;
      walks = log_walkable c m formed (n - 1 - c.retired) inside;
      acts = transaction_usable c m formed (n - 1) in_log before;
      short = (transaction_length c m formed (n - 1) in_log before).1;
    }

    -- the message's length, by the count of records
    module _ (first count : ℕ) (f : first ≡ walk (n - 1 - c.retired) m.log c.oldest) (k : count ≡ length (records_of m.log first)) where
      abbrev texts : List (List ℕ)
      texts = map handed_in (transaction_at m.log first)

      length_texts : length texts ≡ count
      length_texts = length_handed_in m.log first ∙ sym k

      joined_length : length (joined texts) ≡ 80 * count
      joined_length =
          let o = rw (sym f) at (transaction_operations c m formed (n - 1) in_log before) in
          length_joined texts (handed_operations _ o).0 ∙ ap (λ (k : ℕ). 80 * k) length_texts

      message_is : message_in c m.log n ≡ u16_bytes n ++ (count ∷ 0 ∷ joined texts)
      unfolding message_in message_of transaction_after
      message_is = rw (sym f) (ap (λ (k : ℕ). u16_bytes n ++ (k ∷ 0 ∷ joined texts)) length_texts)

      message_length : length (message_in c m.log n) ≡ 4 + 80 * count
      unfolding u16_bytes
      message_length = ap length message_is ∙ (let j = joined_length in omega arith)

      -- the writer's own row decides
      own_row : (b : Bool) → ltb (length out) (4 + 80 * count) ≡ b → cond b 17 0 ≡ write_stop c m n (length out)
      unfolding write_stop write_rows stopped
      own_row b g =
          let memory = (later_stops (memory_rows c m) (number_rows c n) 0 (memory_numbered c m) (sym e ∙ z)).0 in
          decides (memory_rows c m) _ 0 (cond b 17 0) (memory_numbered c m) (sym memory) refl (rw (by_number.0, known_number, message_length, g))

      pub write_short : length out < 4 + 80 * count → after (refused 17) c m out ≡ write c m n out
      unfolding write unless
      write_short h = let s = own_row true (lt-ltb _ _ h) in rw (sym s)

      pub write_accepted : 4 + 80 * count ≤ length out → (new : List ℕ) → new ≡ over (over out 0 4 (u16_bytes n ++ (count ∷ 0 ∷ []))) 4 (4 + 80 * count - 4) (joined texts)
          → after (done (4 + 80 * count)) c m new ≡ write c m n out
      unfolding write unless u16_bytes
      write_accepted h new g =
          let s = own_row false (le-ltb _ _ h) in
          let k : 4 + 80 * count - 4 ≡ 80 * count = add-sub_cancel_left 4 (80 * count) in
          let whole = over_beside out 0 4 (80 * count) (u16_bytes n ++ (count ∷ 0 ∷ [])) (joined texts) (omega arith) refl in
          rw (sym s, message_length, message_is) (ap (λ (x : List ℕ). after (done (4 + 80 * count)) c m x) ((rw k at g) ∙ whole))
