-- Laws of cursors: a number by its parts, and a title that is not there.
use Prim.Native.Nat.{ℕ, ◌-◌}
use mathlib.Core.Path.{◌≡◌, refl}
use mathlib.Core.List.{List}
use native.Mathlib.Omega.{arith}
use Rattle.std.specs.Prelude.{Result}
use Rattle.carts.specs.Bytes.{every}
use Rattle.lines.specs.declared.text.Class.TheVariants.{Digit}
use Rattle.lines.specs.declared.text.NumberError.{NumberError}
use Rattle.lines.specs.Text.{run_end, part_in, number_of}
use Rattle.lines.specs.Cursor.{Reading, next_place, taken, number_at, Titled}

pub number_by_parts : (c : Reading) (line : List ℕ) (most start end : ℕ) (p : List ℕ) (n : Result ℕ NumberError) →
    line ≡ c.line → start ≡ next_place c → end ≡ run_end line start Digit → p ≡ part_in line start (end - start) → n ≡ number_of most p → taken c end n ≡ number_at c most
unfolding number_at
number_by_parts c line most start end p n e₀ e₁ e₂ e₃ e₄ = rw (e₄, e₃, e₂, e₁, e₀)

pub no_letters : (s : List ℕ) → Titled s 0 0
unfolding every
no_letters s = record { inside = omega arith; few = omega arith; letters = refl }
