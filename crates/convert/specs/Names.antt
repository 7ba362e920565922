-- The name of the new file beside TO.
use Rattle.std.specs.Prelude.{List, ◌++◌, ℕ}
use Rattle.lines.specs.Words.{bytes_of}

abbrev pub partial_name : List ℕ → List ℕ
partial_name to = to ++ bytes_of ".partial"
