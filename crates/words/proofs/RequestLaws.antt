-- A law of the numbers that a request asks for.
use Prim.Native.Nat.{ℕ, ◌+◌}
use mathlib.Core.Path.{◌≡◌}
use mathlib.Core.List.{List, ◌++◌}
use native.Mathlib.Numerals.{add-one}
use Rattle.lines.specs.Build.{asked_at}
use Rattle.lines.specs.Words.{bytes_of}
use Rattle.words.specs.Page.{decimal}
use Rattle.words.specs.Request.{asked_numbers}

-- one number more of a request
pub asked_more : (request : List ℕ) (i : ℕ) → asked_numbers request (i + 1) ≡ asked_numbers request i ++ (bytes_of " " ++ decimal (asked_at request i))
unfolding asked_numbers
asked_more request i = rw add-one
