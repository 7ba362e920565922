-- Document 02, S-10: the words of its promises, for crates/old_edition/proofs/Theorems.antt.
use Rattle.std.specs.Prelude.{◌≡◌, List, ℕ}
use Rattle.carts.specs.Bytes.{part, byte, u16, u32}
use Rattle.carts.specs.Cart.{copy_size, number_at, audio_at, length_at, title_at}
use Rattle.old_edition.specs.OldFile.{file_size}
use Rattle.old_edition.specs.Convert.{written, from_old, to_old}

-- "where accepted", by the answer: an input, and the output as it was lent
abbrev pub AcceptedFrom : List ℕ → List ℕ → Type 0
AcceptedFrom file out = (from_old file out).answer ≡ written copy_size

abbrev pub AcceptedTo : List ℕ → List ℕ → Type 0
AcceptedTo copy out = (to_old copy out).answer ≡ written file_size

-- "Each cart keeps its place, audio, length and title": state, number, audio, length, and the title's letters, of two carts of either form
pub record SameCart (a b : List ℕ) : Type 0 where
  pub state : byte a 0 ≡ byte b 0
  pub title_length : byte a 1 ≡ byte b 1
  pub number : u16 a number_at ≡ u16 b number_at
  pub audio : u32 a audio_at ≡ u32 b audio_at
  pub milliseconds : u32 a length_at ≡ u32 b length_at
  pub letters : part a title_at (byte a 1) ≡ part b title_at (byte b 1)
