-- Document 01, "The plain machine": transactions, and the library that a list of them makes.
use Rattle.std.specs.Prelude.{Bool, true, ◌&&◌, List, [], ◌∷◌, ℕ, ◌+◌, ◌-◌, length, take}
use Rattle.carts.specs.Bytes.{zeros}
use Rattle.carts.specs.Cart.{copy_size}
use Rattle.carts.specs.Operation.{meets_all, act_all}

-- a transaction: its operations, 80 bytes each, as handed in
abbrev pub Transaction : Type 0
Transaction = List (List ℕ)

-- the copy after a list of transactions
unfoldable pub replay : List ℕ → List Transaction → List ℕ
replay copy [] = copy
replay copy (t ∷ ts) = replay (act_all copy t) ts

-- "L(n) is the library that the first n transactions make from 128 empty carts, operation by operation"
unfoldable pub L : List Transaction → ℕ → List ℕ
L log n = replay (zeros copy_size) (take n log)

-- 02, S-9, "Load works out its copies from the sixth": the library of n transactions, made from that of the first `begun` by those after them
unfoldable pub LFrom : List ℕ → ℕ → List Transaction → ℕ → List ℕ
LFrom base begun log n = replay base (take (n - begun) log)

-- 02, S-8, of the log: "a logged operation met its cart in the wrong state". In this list of transactions, which acts on a copy, none does.
unfoldable pub met_from : List ℕ → List Transaction → Bool
met_from copy [] = true
met_from copy (t ∷ ts) = let rest = met_from (act_all copy t) ts in meets_all copy t && rest

-- each operation of a log met its cart in the right state: each transaction's in L of the ones before it
unfoldable pub met_all : List Transaction → Bool
met_all log = met_from (zeros copy_size) log

-- the records that a log takes: one for each operation
unfoldable pub records_used : List Transaction → ℕ
records_used [] = 0
records_used (t ∷ ts) = length t + records_used ts
