-- Laws of what a player carries from line to line.
use Rattle.std.proofs.Common.{◌≡◌, ℕ, ◌≤◌, Bool, true, false, List, length, refl, ap, ◌∙◌, arith, Result, Ok, Err}
use Rattle.carts.specs.declared.refusal.Refusal.{Refusal}
use Rattle.carts.specs.declared.refusal.Refusal.TheVariants.{WrongState}
use Rattle.carts.proofs.RefusalLaws.{other_than_8}
use Rattle.journal.specs.declared.history.Entry.{Entry}
use Rattle.journal.specs.declared.history.History.{History}
use Rattle.journal.specs.History.{commit_kind, read_kind, refused_kind, room_for, added_history, grown, missed, Added, kept_in}
use Rattle.lines.specs.Text.{part_in}
use Rattle.journal.specs.Progress.{Kept, kept, stepped, entry_of, with_entry, after_commit, read_bytes, after_read}
use Rattle.journal.specs.declared.progress.Progress.{Progress}
use Rattle.journal.specs.declared.progress.Outcome.{Outcome}
use Rattle.journal.specs.declared.progress.Outcome.TheVariants.{Accepted, Waited, Refused}
use Rattle.replication.specs.declared.control.Control.{Control}
use Rattle.replication.specs.declared.answer.Reading.{Reading}
use Rattle.replication.specs.declared.answer.Reading.TheVariants.{Answered, Waits}
use Rattle.journal.proofs.HistoryLaws.{room_facts}

-- entries that have room still have it with one more
pub added_room : (h : History) (e : Entry) (payload : List ℕ) (entries : List Entry) (store : List ℕ) → h.entries ≤ length entries
    → (added_history h e payload entries store).entries ≤ length entries
unfolding grown missed
added_room h e payload entries store l = go (room_for h payload entries store) refl
  where
    go : (b : Bool) → room_for h payload entries store ≡ b → (added_history h e payload entries store).entries ≤ length entries
    go true r = let f = room_facts h (length entries) (length store) (length payload) r in rw r (omega arith)
    go false r = rw r l

-- a call's entry
pub with_entry_law : (p : Progress) (control : Control) (o : Outcome) (e : Entry) (payload : List ℕ) (entries : List Entry) (store : List ℕ) {entries' : List Entry} {store' : List ℕ} {h : History}
    {r : Progress} → p.history.entries ≤ length entries → Added p.history e payload entries store entries' store' h → r ≡ stepped p control h o
    → (kept entries' store' r ≡ with_entry p control o e payload entries store) × (r.history.entries ≤ length entries)
unfolding with_entry stepped
with_entry_law p control o e payload entries store l a q = (rw (q, a.kept, a.bytes, a.next), rw (q, a.next) (added_room p.history e payload entries store l))

-- a call that adds no entry keeps their room
pub same_room : (p : Progress) (control : Control) (o : Outcome) {r : Progress} (n : ℕ) → p.history.entries ≤ n → r ≡ stepped p control p.history o → r.history.entries ≤ n
unfolding stepped
same_room p control o n l q = rw q l

-- by the answer: a commit's entry, accepted or refused with 8, or another refusal
module _ (p : Progress) (control : Control) (answer : Result ℕ Refusal) (session : ℕ) (ops : List ℕ) (entries : List Entry) (store : List ℕ) where
  pub commit_accepted : {k : Kept} {e : Entry} (n : ℕ) → answer ≡ Ok n → e ≡ entry_of commit_kind p.line session n 0
      → k ≡ with_entry p control Accepted e ops entries store → k ≡ after_commit p control answer session ops entries store
  unfolding after_commit
  commit_accepted n a b q = rw a (q ∙ ap (λ x. with_entry p control Accepted x ops entries store) b)

  pub commit_told : {k : Kept} {e : Entry} → answer ≡ Err WrongState → e ≡ entry_of refused_kind p.line session control.commits 0
      → k ≡ with_entry p control Refused e ops entries store → k ≡ after_commit p control answer session ops entries store
  unfolding after_commit
  commit_told a b q = rw a (q ∙ ap (λ x. with_entry p control Refused x ops entries store) b)

  pub commit_refused : {r : Progress} (n : Refusal) → answer ≡ Err n → (n ≡ WrongState → ⊥) → r ≡ stepped p control p.history Refused
      → kept entries store r ≡ after_commit p control answer session ops entries store
  unfolding after_commit
  commit_refused n a e q = rw (a, other_than_8 n e, q)

-- by the answer: a read's entry, its request kept, or its refusal
module _ (p : Progress) (control : Control) (answer : Result Reading Refusal) (session : ℕ) (block : List ℕ) (entries : List Entry) (store : List ℕ) where
  pub read_entry_law : {k : Kept} {e : Entry} {payload : List ℕ} (state found : ℕ) → answer ≡ Ok (Answered state found) → e ≡ entry_of read_kind p.line session state found → payload ≡ read_bytes block
      → k ≡ with_entry p control Accepted e payload entries store → k ≡ after_read p control answer session block entries store
  unfolding after_read
  read_entry_law {k} {e} {payload} state found a b d q =
      rw a (q ∙ ap (λ x. with_entry p control Accepted x payload entries store) b ∙ ap (λ x. with_entry p control Accepted (entry_of read_kind p.line session state found) x entries store) d)

  pub read_waits : {store' : List ℕ} {r : Progress} (n : ℕ) → answer ≡ Ok (Waits n) → store' ≡ kept_in store session (part_in block 0 80) → r ≡ stepped p control p.history Waited
      → kept entries store' r ≡ after_read p control answer session block entries store
  unfolding after_read
  read_waits n a b q = rw (a, b, q)

  pub read_refused : {r : Progress} (n : Refusal) → answer ≡ Err n → r ≡ stepped p control p.history Refused → kept entries store r ≡ after_read p control answer session block entries store
  unfolding after_read
  read_refused n a q = rw (a, q)
