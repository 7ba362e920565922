-- Texts as bytes.
use Rattle.std.specs.Prelude.{Bool, List, [], ◌∷◌, ℕ, eqb}
use Prim.Native.Char.{code}
use Prim.Native.String.{String, [] as empty, ◌∷◌ as ◌before◌}
use Rattle.carts.specs.Bytes.{pairwise}

-- the bytes of a text (of characters below 128)
abbrev pub bytes_of : String → List ℕ
bytes_of empty = []
bytes_of (c before s) = code c ∷ bytes_of s

-- the word is this text
abbrev pub says : List ℕ → String → Bool
says word text = pairwise eqb word (bytes_of text)
