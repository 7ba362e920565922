-- What is true of an accepted call, and of a commit that row 8 stops: one law for each call's rows, over what the rows look at, so that a row more is one
-- field and one place here.
use Prim.Native.Nat.{ℕ, ◌+◌, ◌-◌, ◌≤◌, ◌<◌}
use mathlib.Core.Path.{◌≡◌, refl}
use mathlib.Core.Bool.{Bool, true, false, ◌||◌, ◌&&◌, not}
use mathlib.Core.List.{List, [], ◌∷◌}
use lib.Dec.{eqb, leb, ltb}
use native.Mathlib.Omega.{arith}
use lib.ListN.{length}
use borrow.Author.Tests.{eqb-true, eqb-false, ltb-true, ltb-false, leb-false, not-true, not-false}
use Rattle.carts.specs.Bytes.{within, all, every, any}
use Rattle.carts.specs.Operation.{operation_form, spaced, operations_of, meets_all}
use Rattle.carts.proofs.TestLaws.{all_at, and_left, and_right}
use Rattle.edit_log.specs.Log.{up_from}
use Rattle.edit_log.proofs.OnceLaws.{every_up_from}
use Rattle.replication.specs.Memory.{Memory, lengths_form, nth}
use Rattle.replication.specs.Log.{no_room}
use Rattle.replication.specs.Request.{Request, nothing, by_numbers, by_title, request_of, request_form, is_waiting, needed}
use Rattle.replication.specs.Rows.{Row, row, stopped, lengths_row, setup_rows, setup_stop, session_row, studio_row, size_form, form_rows, commit_rows, send_rows, refresh_rows, read_rows, collect_rows, move_rows, retire_rows}
use Rattle.replication.proofs.RowLaws.{lacks, passed, later_stops, row_holds, session_numbered, studio_numbered}
use Rattle.replication.proofs.DecideLaws.{KnownSession, KnownStudio, known_session_law, known_studio}

-- rows 1 and 15
pub record SetupAccepted (m : Memory) (studios : ℕ) (bytes : List ℕ) : Type 0 where
  pub lengths : lengths_form m ≡ true
  pub few : within 1 4 studios ≡ true
  pub count : length bytes ≡ 16
  pub places : every (λ b. leb b studios) bytes ≡ true

pub setup_passed : (m : Memory) (studios : ℕ) (bytes : List ℕ) → setup_stop m studios bytes ≡ 0 → SetupAccepted m studios bytes
unfolding setup_stop lengths_row setup_rows
setup_passed m studios bytes e =
    let tests : List Bool = within 1 4 studios ∷ eqb (length bytes) 16 ∷ every (λ b. leb b studios) bytes ∷ [] in
    let p1 = passed 0 (not (lengths_form m)) _ e in
    let t : all tests ≡ true = not-false _ (passed 14 (not (all tests)) [] p1.1).0 in
    record { lengths = not-false _ p1.0; few = all_at 0 tests t; count = eqb-true _ _ (all_at 1 tests t); places = all_at 2 tests t }

-- row 3
session_passed : (s studio : ℕ) (rs : List Row) → stopped (session_row s studio ∷ rs) ≡ 0 → KnownSession s studio × (stopped rs ≡ 0)
session_passed s studio rs e =
    let p = later_stops (session_row s studio ∷ []) rs 0 (session_numbered s studio) e in
    (known_session_law s studio p.0, p.1)

studio_passed : (studios i : ℕ) (rs : List Row) → stopped (studio_row studios i ∷ rs) ≡ 0 → KnownStudio studios i × (stopped rs ≡ 0)
studio_passed studios i rs e =
    let p = later_stops (studio_row studios i ∷ []) rs 0 (studio_numbered studios i) e in
    (known_studio studios i p.0, p.1)

-- row 4
idle_is : (q : Request) → is_waiting q ≡ false → q ≡ nothing
unfolding is_waiting
idle_is nothing e = refl
idle_is (by_numbers cs) e = cc
idle_is (by_title t) e = cc

pub record CommitAccepted (s studio : ℕ) (waiting : Request) (used commits : ℕ) (primary bytes : List ℕ) : Type 0 where
  pub who : KnownSession s studio
  pub idle : waiting ≡ nothing
  pub size : size_form bytes ≡ true
  pub form : every operation_form (operations_of bytes) ≡ true
  pub unspaced : any spaced (operations_of bytes) ≡ false
  pub room : used + length (operations_of bytes) ≤ 512
  pub few : commits < 65535
  pub meets : meets_all primary (operations_of bytes) ≡ true

-- neither condition of row 7
neither : (a b : Bool) → (a || b) ≡ false → (a ≡ false) × (b ≡ false)
neither true b e = let z : ◌≡◌ {A = ℕ} 0 1 = cc in absurd (omega arith)
neither false b e = (refl, e)

pub commit_passed : (s studio : ℕ) (waiting : Request) (used commits : ℕ) (primary bytes : List ℕ)
    → stopped (commit_rows s studio waiting used commits primary bytes) ≡ 0 → CommitAccepted s studio waiting used commits primary bytes
unfolding commit_rows no_room
commit_passed s studio waiting used commits primary bytes e =
    let p3 = session_passed s studio _ e in
    let p4 = passed 3 (is_waiting waiting) _ p3.1 in
    let p5 = passed 4 (not (size_form bytes)) _ p4.1 in
    let p6 = passed 5 (not (every operation_form (operations_of bytes))) _ p5.1 in
    let p16 = passed 15 (any spaced (operations_of bytes)) _ p6.1 in
    let p7 = passed 6 (ltb 512 (used + length (operations_of bytes)) || leb 65535 commits) _ p16.1 in
    let (room, few) = neither (ltb 512 (used + length (operations_of bytes))) (leb 65535 commits) p7.0 in
    let p8 = passed 7 (not (meets_all primary (operations_of bytes))) _ p7.1 in
    record {
      who = p3.0;
      idle = idle_is waiting p4.0;
      size = not-false _ p5.0;
      form = not-false _ p6.0;
      unspaced = p16.0;
      room = ltb-false _ _ room;
      few = leb-false _ _ few;
      meets = not-false _ p8.0;
    }

-- a commit that row 8 stops: an operation meets its cart in the wrong state
pub record CommitTold (s studio : ℕ) (primary bytes : List ℕ) : Type 0 where
  pub who : KnownSession s studio
  pub misses : meets_all primary (operations_of bytes) ≡ false

pub commit_told : (s studio : ℕ) (waiting : Request) (used commits : ℕ) (primary bytes : List ℕ)
    → stopped (commit_rows s studio waiting used commits primary bytes) ≡ 8 → CommitTold s studio primary bytes
unfolding commit_rows lacks every session_row
commit_told s studio waiting used commits primary bytes e =
    let first : List Row = session_row s studio ∷ row 4 (is_waiting waiting) ∷ form_rows used commits bytes in
    let p = later_stops first (row 8 (not (meets_all primary (operations_of bytes))) ∷ []) 8 refl e in
    let q = session_passed s studio (row 4 (is_waiting waiting) ∷ form_rows used commits bytes) p.0 in
    record { who = q.0; misses = not-true _ (row_holds 7 _ p.1) }

pub record SendAccepted (studios i sent applied commits : ℕ) : Type 0 where
  pub who : KnownStudio studios i
  pub unsent : sent ≡ commits → ⊥
  pub near : sent - applied ≡ 32 → ⊥

pub send_passed : (studios i sent applied commits : ℕ) → stopped (send_rows studios i sent applied commits) ≡ 0 → SendAccepted studios i sent applied commits
unfolding send_rows
send_passed studios i sent applied commits e =
    let p3 = studio_passed studios i _ e in
    let p9 = passed 8 (eqb sent commits) _ p3.1 in
    let p10 = passed 9 (eqb (sent - applied) 32) _ p9.1 in
    record { who = p3.0; unsent = eqb-false _ _ p9.0; near = eqb-false _ _ p10.0 }

pub record RefreshAccepted (studios i sent applied : ℕ) : Type 0 where
  pub who : KnownStudio studios i
  pub behind : sent ≡ applied → ⊥

pub refresh_passed : (studios i sent applied : ℕ) → stopped (refresh_rows studios i sent applied) ≡ 0 → RefreshAccepted studios i sent applied
unfolding refresh_rows
refresh_passed studios i sent applied e =
    let p3 = studio_passed studios i _ e in
    let p11 = passed 10 (eqb sent applied) _ p3.1 in
    record { who = p3.0; behind = eqb-false _ _ p11.0 }

pub record ReadAccepted (s studio : ℕ) (waiting : Request) (request : List ℕ) (room : ℕ) : Type 0 where
  pub who : KnownSession s studio
  pub idle : waiting ≡ nothing
  pub form : request_form request ≡ true
  pub fits : needed (request_of request) ≤ room

pub read_passed : (s studio : ℕ) (waiting : Request) (request : List ℕ) (room : ℕ)
    → stopped (read_rows s studio waiting request room) ≡ 0 → ReadAccepted s studio waiting request room
unfolding read_rows
read_passed s studio waiting request room e =
    let p3 = session_passed s studio _ e in
    let p4 = passed 3 (is_waiting waiting) _ p3.1 in
    let p12 = passed 11 (not (request_form request)) _ p4.1 in
    let p13 = passed 12 (ltb room (needed (request_of request))) _ p12.1 in
    record { who = p3.0; idle = idle_is waiting p4.0; form = not-false _ p12.0; fits = ltb-false _ _ p13.0 }

pub record CollectAccepted (s studio : ℕ) (waiting : Request) (room : ℕ) : Type 0 where
  pub who : KnownSession s studio
  pub waits : is_waiting waiting ≡ true
  pub fits : needed waiting ≤ room

pub collect_passed : (s studio : ℕ) (waiting : Request) (room : ℕ) → stopped (collect_rows s studio waiting room) ≡ 0 → CollectAccepted s studio waiting room
unfolding collect_rows
collect_passed s studio waiting room e =
    let p3 = session_passed s studio _ e in
    let p14 = passed 13 (not (is_waiting waiting)) _ p3.1 in
    let p13 = passed 12 (ltb room (needed waiting)) _ p14.1 in
    record { who = p3.0; waits = not-false _ p14.0; fits = ltb-false _ _ p13.0 }

pub record MoveAccepted (s studio : ℕ) (waiting : Request) (studios i : ℕ) : Type 0 where
  pub who : KnownSession s studio
  pub there : KnownStudio studios i
  pub idle : waiting ≡ nothing

pub move_passed : (s studio : ℕ) (waiting : Request) (studios i : ℕ) → stopped (move_rows s studio waiting studios i) ≡ 0 → MoveAccepted s studio waiting studios i
unfolding move_rows
move_passed s studio waiting studios i e =
    let p3 = session_passed s studio _ e in
    let q3 = studio_passed studios i _ p3.1 in
    let p4 = passed 3 (is_waiting waiting) _ q3.1 in
    record { who = p3.0; there = q3.0; idle = idle_is waiting p4.0 }

-- row 20: there is an oldest transaction, and every studio has applied it
pub record RetireAccepted (studios retired commits : ℕ) (applied : List ℕ) : Type 0 where
  pub some : retired < commits
  pub unneeded : (i : ℕ) → 1 ≤ i → i ≤ studios → retired < nth applied i

pub retire_passed : (studios retired commits : ℕ) (applied : List ℕ) → stopped (retire_rows studios retired commits applied) ≡ 0 → RetireAccepted studios retired commits applied
unfolding retire_rows
retire_passed studios retired commits applied e =
    let every_one : Bool = every (λ i. ltb retired (nth applied i)) (up_from 1 studios) in
    let both = not-false _ (passed 19 (not (ltb retired commits && every_one)) [] e).0 in
    record {
      some = ltb-true _ _ (and_left (ltb retired commits) every_one both);
      unneeded = λ i l g. ltb-true _ _ (every_up_from (λ i. ltb retired (nth applied i)) 1 studios (and_right (ltb retired commits) every_one both) i l (omega arith));
    }
