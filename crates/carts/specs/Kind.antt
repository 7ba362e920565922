-- Byte 0 of an operation of each kind: "1 new, 2 retitle, 3 re-cut, 4 withdraw".
use Rattle.std.specs.Prelude.{ℕ}
use Rattle.carts.specs.declared.kind.Kind.{Kind}
use Rattle.carts.specs.declared.kind.Kind.TheVariants.{New, Retitle, Recut, Withdraw}

abbrev pub kind_byte : Kind → ℕ
kind_byte New = 1
kind_byte Retitle = 2
kind_byte Recut = 3
kind_byte Withdraw = 4
