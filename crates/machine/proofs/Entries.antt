-- THEOREM B. The entries of every list of calls are a history, from every sound machine that goes on from one: one lemma for each call.
use Prim.Native.Nat.{ℕ, ◌+◌, ◌-◌, ◌≤◌}
use native.Mathlib.Omega.{arith}
use mathlib.Core.Path.{◌≡◌, refl, subst, ◌∙◌}
use mathlib.Core.Bool.{true, false, false≢true}
use mathlib.Core.List.{List, [], ◌∷◌, ◌++◌, map}
use lib.ListN.{length, take}
use borrow.Author.Tests.{ne_eqb}
use Rattle.carts.specs.Bytes.{over}
use Rattle.carts.specs.Operation.{operations_of, meets_all, act_all}
use Rattle.carts.specs.Transaction.{Transaction, L}
use Rattle.carts.proofs.PartLaws.{part_over}
use Rattle.replication.specs.Answer.{Answer}
use Rattle.replication.specs.Request.{Request, request_of, is_waiting, needed, found_in, shown_from}
use Rattle.replication.specs.Call as Call
use Rattle.replication.proofs.RowLaws.{unless_case}
use Rattle.replication.proofs.ShownLaws.{Askable, length_shown, request_askable}
use Rattle.replication.proofs.DecideLaws.{KnownSession}
use Rattle.replication.proofs.Accepted.{commit_passed, CommitTold, commit_told, read_passed, collect_passed, move_passed}
use Rattle.machine.specs.Machine.{Machine, Step, step, refusal, commits, session_of, told, commit, preview, send, refresh, answer_from, block, wait, reading, read, collect, forward, write, move, load, retire, call, run}
use Rattle.machine.specs.Library.{operations, Reply, request, at, refused8, shown, library, serve}
use Rattle.machine.specs.OneCopy.{Event, event, Counted, counted, entry, commit_replies, read_replies, read_entry, Kind, writes, reads, collects, neither, kind_of, entry_of, waited_after, entries}
use Rattle.machine.proofs.Sort.{length_snoc}
use Rattle.machine.proofs.History.{History, ended, made, seen}
use Rattle.machine.proofs.Updates.{put}
use Rattle.machine.proofs.Cases.{refused_case, block_case, state_for}
use Rattle.machine.proofs.Libraries.{length_L}
use Rattle.machine.proofs.Sound.{Sound, applied_commits, retired_applied}
use Rattle.machine.proofs.Kept.{number_after_law, keeps}
use Rattle.machine.proofs.Follows.{Follows, appended, other_counts, more_retired, shown_to_law, stored_for, left_so}

-- the events of a list on the plain machine, and with the commits that each call left
abbrev pub plain_event : Call.Turn Step → Event
plain_event t = event t.call t.left.answer t.left.output

unfoldable pub plain_history : Step → List Call.Call → List Event
plain_history r H = map plain_event (run r H)

unfoldable pub plain_counted : Step → List Call.Call → List Counted
plain_counted r H = map (λ t. counted (plain_event t) (commits t.left.next)) (run r H)

-- the entries of what is left of the list may follow, from every such machine after n commits
abbrev pub Goes : List Call.Call → Type 0
Goes H = (r : Step) (n : ℕ) (copies : ℕ → List ℕ) (floor : ℕ → ℕ) (waited : ℕ → Request) (i : ℕ)
    → commits r.next ≡ n → Sound r.next → Follows r.next copies floor waited → History n copies floor (entries i waited (plain_counted r H))

-- what the library of k commits shows
shows : (copies : ℕ → List ℕ) (k : ℕ) (q : Request)
    → serve (library k (copies k)) (request q) ≡ (at k (shown (found_in (copies k) q) (shown_from (copies k) q)), library k (copies k))
unfolding serve
shows copies k q = refl

-- and that it refuses operations that meet a cart in the wrong state
refuses : (copies : ℕ → List ℕ) (k : ℕ) (ops : Transaction) → meets_all (copies k) ops ≡ false
    → serve (library k (copies k)) (operations ops) ≡ (at k refused8, library k (copies k))
unfolding serve
refuses copies k ops e = rw e

module _ (H : List Call.Call) (go_on : Goes H) (m : Machine) (copies : ℕ → List ℕ) (floor : ℕ → ℕ) (waited : ℕ → Request) (i : ℕ)
    (sound : Sound m) (f : Follows m copies floor waited) where
  abbrev n : ℕ
  n = commits m

  -- the entry of a call, before what may follow what it left
  abbrev Fits : Kind → Step → Type 0
  Fits x r = Sound r.next
      → History n copies floor (entry_of i waited x (commits r.next) r.answer r.output ++ entries (i + 1) (waited_after waited x r.answer) (plain_counted r H))

  -- a call that leaves the machine as it was, and has no entry
  nothing_new : (a : Answer) (out : List ℕ) → History n copies floor (entries (i + 1) waited (plain_counted (step a m out) H))
  nothing_new a out = go_on (step a m out) n copies floor waited (i + 1) refl sound f

  -- no session has been shown more than is committed
  floor_known : (s : ℕ) → 1 ≤ s → floor s ≤ n
  floor_known s u = omega (arith, f.floors s u, sound.number_le (s - 1), sound.retired_commits)

  -- nor more than its studio has applied, where the studio has reached its number: all that is retired it has applied
  floor_reached : (s : ℕ) → KnownSession s (session_of m s).studio → (session_of m s).number ≤ state_for m s → floor s ≤ state_for m s
  floor_reached s who u = omega (arith, f.floors s who.low, retired_applied m sound s who)

  -- a commit refused with 8 is answered by the library of n commits, and its session has seen it
  when_told : (s : ℕ) (bytes : List ℕ) (k : ℕ) → k ≡ 8 → CommitTold s (session_of m s).studio (L m.log n) bytes → Fits (writes s bytes) (refusal (told m s) [] k)
  unfolding entry_of commit_replies waited_after
  when_told s bytes k e a = rw e (λ kept.
      let ops : Transaction = operations_of bytes in
      let misses : meets_all (copies n) ops ≡ false = rw (f.libraries n (omega arith)) a.misses in
      let high : n ≤ n = omega arith in
      seen i s (operations ops) n refused8 (refuses copies n ops misses) (floor_known s a.who.low) high
      (go_on _ n copies (put floor s n) waited (i + 1) refl kept
      (shown_to_law m copies floor waited f s _ a.who sound.sixteen n (omega arith) (f.waits_for s a.who.low))))

  when_stopped : (s : ℕ) (bytes : List ℕ) (k : ℕ) → (k ≡ 8 → ⊥) → Fits (writes s bytes) (refusal m [] k)
  unfolding entry_of commit_replies waited_after
  when_stopped s bytes k u kept = rw (ne_eqb k 8 u) (nothing_new _ _)

  when_commit : (s : ℕ) (bytes : List ℕ) → Fits (writes s bytes) (commit m s bytes)
  unfolding commit entry_of commit_replies waited_after
  when_commit s bytes = unless_case (Fits (writes s bytes)) _ _ _ (λ k e. refused_case (Fits (writes s bytes)) m s _
      (λ u. when_told s bytes _ u (commit_told _ _ _ _ _ _ _ (e ∙ u))) (when_stopped s bytes _)) (λ e kept.
      let a = commit_passed s (session_of m s).studio (session_of m s).waiting _ n (L m.log n) bytes e in
      let ops : Transaction = operations_of bytes in
      let copies' : ℕ → List ℕ = put copies (n + 1) (act_all (copies n) ops) in
      let meets : meets_all (copies n) ops ≡ true = rw (f.libraries n (omega arith)) a.meets in
      made i s ops meets
      (go_on _ (n + 1) copies' (put floor s (n + 1)) waited (i + 1) (length_snoc m.log ops) kept
      (shown_to_law _ copies' floor waited (appended m copies floor waited f ops) s _ a.who sound.sixteen (n + 1) (omega arith) (f.waits_for s a.who.low))))

  when_preview : (s : ℕ) (bytes : List ℕ) → Fits neither (preview m s bytes)
  unfolding preview entry_of waited_after
  when_preview s bytes kept = nothing_new _ _

  when_send : (j : ℕ) → Fits neither (send m j)
  unfolding send entry_of waited_after
  when_send j = unless_case (Fits neither) _ _ _ (λ k e kept. nothing_new _ _) (λ e kept.
      go_on _ n copies floor waited (i + 1) refl kept (other_counts m copies floor waited f _ _))

  when_refresh : (j : ℕ) → Fits neither (refresh m j)
  unfolding refresh entry_of waited_after
  when_refresh j = unless_case (Fits neither) _ _ _ (λ k e kept. nothing_new _ _) (λ e kept.
      go_on _ n copies floor waited (i + 1) refl kept (other_counts m copies floor waited f _ _))

  module _ (s : ℕ) (who : KnownSession s (session_of m s).studio) where
    -- session s is shown the library of k commits, and its number becomes v: by read or forward, or by collect
    module _ (k v : ℕ) (low : floor s ≤ k) (high : k ≤ n) (top : k ≤ v) where
      when_shown : (q : Request) (out : List ℕ) → Askable q → let r = answer_from k v q m s out in
          Sound r.next → History n copies floor (read_entry i s q r.answer r.output ++ entries (i + 1) waited (plain_counted r H))
      unfolding answer_from read_entry read_replies is_waiting
      when_shown q out askable kept =
          let r : Step = answer_from k v q m s out in
          let carts : List ℕ = L m.log k in
          let written : take (needed q) (over out 0 (needed q) (shown_from carts q)) ≡ shown_from carts q = part_over out 0 (needed q) (shown_from carts q) (omega arith) (length_shown carts q (length_L m.log k sound.formed) askable) in
          subst (λ (y : Reply). History n copies floor (entry i s (request q) y ∷ entries (i + 1) waited (plain_counted r H))) (cc (written, f.libraries k high))
          (seen i s (request q) k (shown (found_in (copies k) q) (shown_from (copies k) q)) (shows copies k q) low high
          (go_on r n copies (put floor s k) waited (i + 1) refl kept (shown_to_law m copies floor waited f s _ who sound.sixteen k top (λ w. absurd (false≢true w)))))

      read_shown : (bytes out : List ℕ) → Askable (request_of bytes) → Fits (reads s bytes) (answer_from k v (request_of bytes) m s out)
      unfolding answer_from entry_of waited_after
      read_shown bytes out a = when_shown (request_of bytes) out a

      collect_shown : (out : List ℕ) → Askable (waited s) → Fits (collects s) (answer_from k v (waited s) m s out)
      unfolding answer_from entry_of waited_after
      collect_shown out a = when_shown (waited s) out a

    -- session s waits: read stores its request, collect leaves what is stored
    read_waits : (bytes out : List ℕ) → Fits (reads s bytes) (wait m s (request_of bytes) out)
    unfolding wait entry_of read_entry read_replies waited_after
    read_waits bytes out kept = go_on _ n copies floor (put waited s (request_of bytes)) (i + 1) refl kept
        (stored_for m copies floor waited f s _ who sound.sixteen (request_of bytes) (f.floors s who.low) (λ w. refl))

    collect_waits : (out : List ℕ) → Fits (collects s) (wait m s (waited s) out)
    unfolding wait entry_of read_entry read_replies waited_after
    collect_waits out kept = go_on _ n copies floor waited (i + 1) refl kept
        (left_so m copies floor waited f s _ who sound.sixteen (f.floors s who.low) (λ w. refl))

  when_reading : (s : ℕ) (bytes : List ℕ) (behind : Step) (out : List ℕ) → (KnownSession s (session_of m s).studio → Askable (request_of bytes) → Fits (reads s bytes) behind)
      → Fits (reads s bytes) (reading m s bytes behind out)
  unfolding entry_of read_entry read_replies waited_after
  when_reading s bytes behind out later = unless_case (Fits (reads s bytes)) _ _ _ (λ k e kept. nothing_new _ _) (λ e.
      let a = read_passed s (session_of m s).studio (session_of m s).waiting bytes (length out) e in
      let asked = request_askable bytes a.form in
      block_case m s _ _ out (Fits (reads s bytes))
      (λ u. read_shown s a.who (state_for m s) _ (floor_reached s a.who u) (applied_commits m sound _) (omega (arith, number_after_law (session_of m s).number (state_for m s))) bytes out asked)
      (λ u. later a.who asked))

  when_read : (s : ℕ) (bytes out : List ℕ) → Fits (reads s bytes) (read m s bytes out)
  unfolding read
  when_read s bytes out = when_reading s bytes _ out (λ who asked. read_waits s who bytes out)

  -- the head end shows the library of n commits, and the number becomes n
  when_forward : (s : ℕ) (bytes out : List ℕ) → Fits (reads s bytes) (forward m s bytes out)
  unfolding forward
  when_forward s bytes out = when_reading s bytes _ out (λ who asked.
      let high : n ≤ n = omega arith in
      read_shown s who n _ (floor_known s who.low) high (omega (arith, sound.number_le (s - 1))) bytes out asked)

  when_collect : (s : ℕ) (out : List ℕ) → Fits (collects s) (collect m s out)
  unfolding collect entry_of read_entry read_replies waited_after
  when_collect s out = unless_case (Fits (collects s)) _ _ _ (λ k e kept. nothing_new _ _) (λ e.
      let a = collect_passed s (session_of m s).studio (session_of m s).waiting (length out) e in
      let asked : waited s ≡ (session_of m s).waiting = f.waits_for s a.who.low a.waits in
      subst (λ (q : Request). Fits (collects s) (block m s q (wait m s q out) out)) asked
      (block_case m s _ _ out (Fits (collects s))
      (λ u. collect_shown s a.who (state_for m s) _ (floor_reached s a.who u) (applied_commits m sound _) (omega (arith, number_after_law (session_of m s).number (state_for m s))) out (rw asked (sound.askable (s - 1))))
      (λ u. collect_waits s a.who out)))

  when_write : (j : ℕ) (out : List ℕ) → Fits neither (write m j out)
  unfolding write entry_of waited_after
  when_write j out = unless_case (Fits neither) _ _ _ (λ k e kept. nothing_new _ _) (λ e kept. nothing_new _ _)

  -- a move has no entry: its session has been shown what it had, and waits for nothing more
  when_move : (s j : ℕ) → Fits neither (move m s j)
  unfolding move entry_of waited_after
  when_move s j = unless_case (Fits neither) _ _ _ (λ k e kept. nothing_new _ _) (λ e kept.
      let a = move_passed s (session_of m s).studio (session_of m s).waiting m.studios j e in
      go_on _ n copies floor waited (i + 1) refl kept
      (left_so m copies floor waited f s _ a.who sound.sixteen (f.floors s a.who.low) (f.waits_for s a.who.low)))

  when_load : Fits neither (load m)
  unfolding load entry_of waited_after
  when_load = unless_case (Fits neither) _ _ _ (λ k e kept. nothing_new _ _) (λ e kept. nothing_new _ _)

  when_retire : Fits neither (retire m)
  unfolding retire entry_of waited_after
  when_retire = unless_case (Fits neither) _ _ _ (λ k e kept. nothing_new _ _) (λ e kept.
      go_on _ n copies floor waited (i + 1) refl kept (more_retired m copies floor waited f _ (omega arith)))

  goes : (x : Call.Call) → Fits (kind_of x) (call m x)
  unfolding call kind_of
  goes (Call.commit s bytes) = when_commit s bytes
  goes (Call.preview s bytes) = when_preview s bytes
  goes (Call.send j) = when_send j
  goes (Call.refresh j) = when_refresh j
  goes (Call.read s bytes out) = when_read s bytes out
  goes (Call.collect s out) = when_collect s out
  goes (Call.forward s bytes out) = when_forward s bytes out
  goes (Call.write j out) = when_write j out
  goes (Call.move s j) = when_move s j
  goes Call.load = when_load
  goes Call.retire = when_retire

pub all_goes : (H : List Call.Call) → Goes H
unfolding entries plain_counted Call.run
all_goes [] r n copies floor waited i l sound f = ended
all_goes (x ∷ H) r n copies floor waited i l sound f =
    subst (λ (k : ℕ). History k copies floor (entries i waited (plain_counted r (x ∷ H)))) l
    (goes H (all_goes H) r.next copies floor waited i sound f x (keeps r.next sound x))
