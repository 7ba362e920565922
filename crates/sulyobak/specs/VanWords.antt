-- The van's answer as three words for C: kind, value, applied (02, S-6). The quotes are the issue's.
use Rattle.std.specs.Prelude.{cond, List, ℕ, eqb}
use Rattle.van.specs.Answer.{Answer, refused, applied, held}
use Rattle.van.specs.Receive.{After}
use Rattle.sulyobak.specs.declared.van_words.VanWords.{VanWords}

abbrev pub van_words : ℕ → ℕ → ℕ → VanWords
van_words kind value n = record { kind = kind; value = value; applied = n }

-- "kind 0 refused, 1 applied, 4 held (value: the message's number); applied after the call"
abbrev pub van_words_of : Answer → ℕ → VanWords
van_words_of (refused n) k = van_words 0 n k
van_words_of (applied n) k = van_words 1 n k
van_words_of (held n) k = van_words 4 n k

-- the answer that words stand for: C's way back, by which nothing is lost (proofs/WordLaws.antt, `van_words_tell`)
abbrev pub van_answer_by : VanWords → Answer
van_answer_by w = cond (eqb w.kind 0) (refused w.value) (cond (eqb w.kind 1) (applied w.value) (held w.value))

-- what the receiver hands back to C, and the copy that it leaves
pub record VanLeft : Type 0 where
  pub words : VanWords
  pub copy : List ℕ

abbrev pub van_left : VanWords → List ℕ → VanLeft
van_left w copy = record { words = w; copy = copy }

abbrev pub van_left_by : After → VanLeft
van_left_by a = van_left (van_words_of a.answer a.van.applied) a.van.copy
