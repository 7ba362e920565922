-- Sample requests for worked examples and tables. No part of the specification.
use mathlib.Core.List.{List, [], ◌∷◌, ◌++◌}
use Prim.Native.Nat.{ℕ}
use lib.ListN.{length, take}
use Rattle.carts.specs.Bytes.{zeros}

-- 64 bytes that begin so
unfoldable pub filled : List ℕ → List ℕ
filled s = take 64 (s ++ zeros 64)

-- the numbers (below 256) as u16
unfoldable pub pairs : List ℕ → List ℕ
pairs [] = []
pairs (c ∷ cs) = c ∷ 0 ∷ pairs cs

unfoldable pub ask_numbers : List ℕ → List ℕ
ask_numbers cs = 1 ∷ length cs ∷ zeros 14 ++ filled (pairs cs)

unfoldable pub ask_title : List ℕ → List ℕ
ask_title t = 2 ∷ length t ∷ zeros 14 ++ filled t
