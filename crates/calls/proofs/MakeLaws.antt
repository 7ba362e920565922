-- Nothing of what came of a line is lost in what is told of it.
use mathlib.Core.Path.{◌≡◌, refl, sym, ap, ◌∙◌}
use mathlib.Core.List.{[], ◌∷◌}
use Prim.Native.Nat.{ℕ, ◌-◌}
use Rattle.std.proofs.Common.{get_or}
use Rattle.std.specs.Prelude.{Result, Ok, Err}
use Rattle.carts.specs.Refusal.{refusal_number}
use Rattle.carts.specs.declared.refusal.Refusal.{Refusal}
use Rattle.carts.specs.declared.refusal.Refusal.TheVariants.{Length, Layout, NoSuchPlace, ReadWaits, OperationCount, OperationForm, NoRoom, WrongState, AllSent, WindowFull, AllApplied, RequestForm, ShortOutput, NothingWaits, SetupForm, SpacedTitle, NoMessage, NotNext, OtherCopy, NotRetirable, RetiredEdit, FileForm, LongTitle}
use Rattle.replication.specs.Answer.{Answer, refused, done, waits, answered, setup_answer, count_answer, read_answer}
use Rattle.replication.specs.declared.answer.Reading.{Reading}
use Rattle.replication.specs.declared.answer.Reading.TheVariants.{Answered, Waits}
use Rattle.van.specs.declared.answer.Received as VanAnswer
use Rattle.van.specs.declared.answer.Received.TheVariants.{Applied, Held}
use Rattle.van.specs.Answer as Received
use Rattle.report.specs.declared.turn.Came.{Came}
use Rattle.calls.specs.Make.{Told, set_up, committed, previewed, sent_or_refreshed, looked, shown, unread, nothing, unwritten, received, moved, loaded, retired, told}

-- the code's case for an answer that it can give
refusal_by : ℕ → Refusal
refusal_by n = get_or (Length ∷ Layout ∷ NoSuchPlace ∷ ReadWaits ∷ OperationCount ∷ OperationForm ∷ NoRoom ∷ WrongState ∷ AllSent ∷ WindowFull ∷ AllApplied ∷ RequestForm ∷ ShortOutput ∷ NothingWaits ∷ SetupForm ∷ SpacedTitle ∷ NoMessage ∷ NotNext ∷ OtherCopy ∷ NotRetirable ∷ RetiredEdit ∷ FileForm ∷ LongTitle ∷ []) (n - 1) Length

setup_by : Answer → Result (Unit {0}) Refusal
setup_by (refused n) = Err (refusal_by n)
setup_by (done n) = Ok tt
setup_by (waits n) = Ok tt
setup_by (answered state found) = Ok tt

count_by : Answer → Result ℕ Refusal
count_by (refused n) = Err (refusal_by n)
count_by (done n) = Ok n
count_by (waits n) = Ok n
count_by (answered state found) = Ok state

read_by : Answer → Result Reading Refusal
read_by (refused n) = Err (refusal_by n)
read_by (done n) = Ok (Waits n)
read_by (waits n) = Ok (Waits n)
read_by (answered state found) = Ok (Answered state found)

receive_by : Received.Answer → Result VanAnswer.Received Refusal
receive_by (Received.refused n) = Err (refusal_by n)
receive_by (Received.applied n) = Ok (Applied n)
receive_by (Received.held n) = Ok (Held n)

row_in : Answer → ℕ
row_in (refused n) = n
row_in (done n) = n
row_in (waits n) = n
row_in (answered state found) = state

came_by : Told → Came
came_by (set_up a studios) = Came.Setup (setup_by a) studios
came_by (committed a session operations) = Came.Commit (count_by a) session operations
came_by (previewed a session operations) = Came.Preview (count_by a) session operations
came_by (sent_or_refreshed a studio sends) = Came.SendOrRefresh (count_by a) studio sends
came_by (looked a session) = Came.Read (read_by a) session
came_by shown = Came.Show
came_by (unread mistake at) = Came.Unreadable mistake at
came_by nothing = Came.Nothing
came_by (unwritten a edit) = Came.Unwritten (refusal_by (row_in a)) edit
came_by (received a applied edit) = Came.Received (record { answer = receive_by a; applied = applied }) edit
came_by (moved a session studio) = Came.Move (count_by a) session studio
came_by (loaded a) = Came.Load (count_by a)
came_by (retired a used) = Came.Retire (count_by a) used

-- what came of a line is read back from what is told of it
refusal_back : (r : Refusal) → refusal_by (refusal_number r) ≡ r
unfolding refusal_by
refusal_back Length = refl
refusal_back Layout = refl
refusal_back NoSuchPlace = refl
refusal_back ReadWaits = refl
refusal_back OperationCount = refl
refusal_back OperationForm = refl
refusal_back NoRoom = refl
refusal_back WrongState = refl
refusal_back AllSent = refl
refusal_back WindowFull = refl
refusal_back AllApplied = refl
refusal_back RequestForm = refl
refusal_back ShortOutput = refl
refusal_back NothingWaits = refl
refusal_back SetupForm = refl
refusal_back SpacedTitle = refl
refusal_back NoMessage = refl
refusal_back NotNext = refl
refusal_back OtherCopy = refl
refusal_back NotRetirable = refl
refusal_back RetiredEdit = refl
refusal_back FileForm = refl
refusal_back LongTitle = refl

setup_back : (a : Result (Unit {0}) Refusal) → setup_by (setup_answer a) ≡ a
unfolding setup_by
setup_back (Ok _) = refl
setup_back (Err r) = ap Err (refusal_back r)

count_back : (a : Result ℕ Refusal) → count_by (count_answer a) ≡ a
unfolding count_by
count_back (Ok n) = refl
count_back (Err r) = ap Err (refusal_back r)

read_back : (a : Result Reading Refusal) → read_by (read_answer a) ≡ a
unfolding read_by
read_back (Ok (Answered state found)) = refl
read_back (Ok (Waits n)) = refl
read_back (Err r) = ap Err (refusal_back r)

receive_back : (a : Result VanAnswer.Received Refusal) → receive_by (Received.receive_answer a) ≡ a
unfolding receive_by
receive_back (Ok (Applied n)) = refl
receive_back (Ok (Held n)) = refl
receive_back (Err r) = ap Err (refusal_back r)

told_back : (x : Came) → came_by (told x) ≡ x
unfolding came_by row_in
told_back (Came.Setup a studios) = rw setup_back refl
told_back (Came.Commit a session operations) = rw count_back refl
told_back (Came.Preview a session operations) = rw count_back refl
told_back (Came.SendOrRefresh a studio sends) = rw count_back refl
told_back (Came.Read a session) = rw read_back refl
told_back Came.Show = refl
told_back (Came.Unreadable mistake at) = refl
told_back Came.Nothing = refl
told_back (Came.Unwritten r edit) = rw refusal_back refl
told_back (Came.Received result edit) = rw receive_back refl
told_back (Came.Move a session studio) = rw count_back refl
told_back (Came.Load a) = rw count_back refl
told_back (Came.Retire a used) = rw count_back refl

-- two things that came of lines and are told alike are the same
pub told_once : (x y : Came) → told x ≡ told y → x ≡ y
told_once x y e = sym (told_back x) ∙ ap came_by e ∙ told_back y
