-- The numbers that a request asks for, as text.
use Rattle.std.specs.Prelude.{List, [], ◌++◌, ℕ, zero, suc}
use Rattle.lines.specs.Build.{asked_at}
use Rattle.words.specs.Page.{numbered}

-- the first n numbers that a request asks for, each after a space
unfoldable pub asked_numbers : List ℕ → ℕ → List ℕ
asked_numbers request zero = []
asked_numbers request (suc n) = asked_numbers request n ++ numbered " " (asked_at request n)
