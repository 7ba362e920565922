use mathlib.Core.Path.{sym}
use mathlib.Core.List.{[], ◌∷◌}
use Prim.Native.Nat.{◌+◌, ◌*◌}
use lib.ListN.{length}
use lib.Dec.{leb, eqb}
use Rattle.carts.specs.Bytes.{byte, within}
use Rattle.carts.proofs.ScanLaws.{join_all_law}
use Rattle.van.specs.Message.{message_number, head_form}
use Rattle.van.proofs.MessageLaws.{head_short}
use Rattle.van.proofs.message.is_head.Goals as goal

pub returns-then-message-lt-HEAD_SIZE : goal.returns-then-message-lt-HEAD_SIZE
returns-then-message-lt-HEAD_SIZE c = sym (head_short _ c.if-message-lt-HEAD_SIZE.true)

pub returns : goal.returns
unfolding head_form
returns c = let x = c.args.message.now in
    rw (c.is_within.ensures, c.number_of.ensures.0, c.byte_at-count.ensures.0)
    (join_all_law (leb 1 (message_number x)) (within 1 8 (byte x 2) ∷ eqb (byte x 3) 0 ∷ eqb (length x) (4 + 80 * byte x 2) ∷ []))
