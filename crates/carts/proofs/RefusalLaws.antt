-- Laws of a refusal's number.
use Prim.Native.Nat.{ℕ}
use mathlib.Core.Bool.{false}
use mathlib.Core.Path.{◌≡◌, refl}
use lib.Dec.{eqb}
use native.Mathlib.Omega.{arith}
use Rattle.carts.specs.Refusal.{refusal_number}
use Rattle.carts.specs.declared.refusal.Refusal.{Refusal}
use Rattle.carts.specs.declared.refusal.Refusal.TheVariants.{Length, Layout, NoSuchPlace, ReadWaits, OperationCount, OperationForm, NoRoom, WrongState, AllSent, WindowFull, AllApplied, RequestForm, ShortOutput, NothingWaits, SetupForm, SpacedTitle, NoMessage, NotNext, OtherCopy, NotRetirable, RetiredEdit, FileForm, LongTitle}

-- 0 is the number of no refusal
pub refuses : (r : Refusal) → refusal_number r ≡ 0 → ⊥
refuses Length e = omega arith
refuses Layout e = omega arith
refuses NoSuchPlace e = omega arith
refuses ReadWaits e = omega arith
refuses OperationCount e = omega arith
refuses OperationForm e = omega arith
refuses NoRoom e = omega arith
refuses WrongState e = omega arith
refuses AllSent e = omega arith
refuses WindowFull e = omega arith
refuses AllApplied e = omega arith
refuses RequestForm e = omega arith
refuses ShortOutput e = omega arith
refuses NothingWaits e = omega arith
refuses SetupForm e = omega arith
refuses SpacedTitle e = omega arith
refuses NoMessage e = omega arith
refuses NotNext e = omega arith
refuses OtherCopy e = omega arith
refuses NotRetirable e = omega arith
refuses RetiredEdit e = omega arith
refuses FileForm e = omega arith
refuses LongTitle e = omega arith

-- 8 is the number of WrongState alone
pub other_than_8 : (r : Refusal) → (r ≡ WrongState → ⊥) → eqb (refusal_number r) 8 ≡ false
other_than_8 Length n = refl
other_than_8 Layout n = refl
other_than_8 NoSuchPlace n = refl
other_than_8 ReadWaits n = refl
other_than_8 OperationCount n = refl
other_than_8 OperationForm n = refl
other_than_8 NoRoom n = refl
other_than_8 WrongState n = absurd (n refl)
other_than_8 AllSent n = refl
other_than_8 WindowFull n = refl
other_than_8 AllApplied n = refl
other_than_8 RequestForm n = refl
other_than_8 ShortOutput n = refl
other_than_8 NothingWaits n = refl
other_than_8 SetupForm n = refl
other_than_8 SpacedTitle n = refl
other_than_8 NoMessage n = refl
other_than_8 NotNext n = refl
other_than_8 OtherCopy n = refl
other_than_8 NotRetirable n = refl
other_than_8 RetiredEdit n = refl
other_than_8 FileForm n = refl
other_than_8 LongTitle n = refl
