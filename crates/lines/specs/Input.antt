-- The bytes of a transcript before they are lines.
use Rattle.std.specs.Prelude.{Bool, false, cond, ◌&&◌, ◌||◌, List, ℕ, ◌-◌, length, eqb}
use Rattle.carts.specs.Bytes.{byte}
use Rattle.lines.specs.declared.text.Class.TheVariants.{Other}
use Rattle.lines.specs.Text.{run_end}

-- the byte-order mark of UTF-8 at the start, three bytes, is passed over
unfoldable pub mark_length : List ℕ → ℕ
mark_length s = cond ((eqb (byte s 0) 239 && eqb (byte s 1) 187) && eqb (byte s 2) 191) 3 0

-- a byte-order mark of UTF-16 at the start or a zero byte anywhere is no text
unfoldable pub is_text : List ℕ → Bool
is_text s =
    cond ((eqb (byte s 0) 255 && eqb (byte s 1) 254) || (eqb (byte s 0) 254 && eqb (byte s 1) 255)) false
    (eqb (run_end s 0 (Other 0)) (length s))

-- a line without the return at its end
unfoldable pub line_length : List ℕ → ℕ
line_length s = cond (eqb (byte s (length s - 1)) 13) (length s - 1) (length s)
