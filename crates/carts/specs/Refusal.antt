-- Documents 01 and 02, "Where a call is stopped": the number of each row, and of the row that stops a call, where its code answers by
-- a Result.
use Rattle.std.specs.Prelude.{ℕ, Result, Ok, Err}
use Rattle.carts.specs.declared.refusal.Refusal.{Refusal}
use Rattle.carts.specs.declared.refusal.Refusal.TheVariants.{Length, Layout, NoSuchPlace, ReadWaits, OperationCount, OperationForm, NoRoom, WrongState, AllSent, WindowFull, AllApplied, RequestForm, ShortOutput, NothingWaits, SetupForm, SpacedTitle, NoMessage, NotNext, OtherCopy, NotRetirable, RetiredEdit, FileForm, LongTitle}

abbrev pub refusal_number : Refusal → ℕ
refusal_number Length = 1
refusal_number Layout = 2
refusal_number NoSuchPlace = 3
refusal_number ReadWaits = 4
refusal_number OperationCount = 5
refusal_number OperationForm = 6
refusal_number NoRoom = 7
refusal_number WrongState = 8
refusal_number AllSent = 9
refusal_number WindowFull = 10
refusal_number AllApplied = 11
refusal_number RequestForm = 12
refusal_number ShortOutput = 13
refusal_number NothingWaits = 14
refusal_number SetupForm = 15
refusal_number SpacedTitle = 16
refusal_number NoMessage = 17
refusal_number NotNext = 18
refusal_number OtherCopy = 19
refusal_number NotRetirable = 20
refusal_number RetiredEdit = 21
refusal_number FileForm = 22
refusal_number LongTitle = 23

-- the number of the row that stops a call, or 0
abbrev pub stop_number : {A : Type 0} → Result A Refusal → ℕ
stop_number (Ok _) = 0
stop_number (Err r) = refusal_number r
