-- An answer as three words for C: kind, value, found. Words that have no meaning are 0.
use Rattle.std.specs.Prelude.{cond, List, ℕ, eqb}
use Rattle.replication.specs.Answer.{Answer, refused, done, waits, answered}
use Rattle.replication.specs.Memory.{Memory}
use Rattle.replication.specs.Rows.{stopped, memory_rows}
use Rattle.replication.specs.Calls.{After}
use Rattle.replication.specs.declared.control.Control.{Control}
use Rattle.sulyobak.specs.declared.words.Words.{Words}

-- the version of these words, and of the memory's layout: SULYOBAK_VERSION of include/sulyobak.h
abbrev pub version : ℕ
version = 9

abbrev pub words : ℕ → ℕ → ℕ → Control → Words
words kind value found c = record { kind = kind; value = value; found = found; control = c }

-- 0 refused: the row's number; 1 done: the commit's number (of a preview the one that it would have), sent, applied, a message's
-- length, the studio moved to, the commits of a load, or the count retired (0 for setup); 2 answered: the state, with found; 3 waits: the session's number
abbrev pub words_of : Answer → Control → Words
words_of (refused n) c = words 0 n 0 c
words_of (done n) c = words 1 n 0 c
words_of (answered state found) c = words 2 state found c
words_of (waits n) c = words 3 n 0 c

-- the answer that words stand for: C's way back, by which nothing is lost (proofs/WordLaws.antt, `words_tell`)
abbrev pub answer_by : Words → Answer
answer_by w =
    cond (eqb w.kind 0) (refused w.value)
    (cond (eqb w.kind 1) (done w.value) (cond (eqb w.kind 2) (answered w.value w.found) (waits w.value)))

-- what a call hands back to C, and the bytes it leaves
pub record Left : Type 0 where
  pub words : Words
  pub memory : Memory
  pub output : List ℕ

abbrev pub left : Words → Memory → List ℕ → Left
left w m out = record { words = w; memory = m; output = out }

abbrev pub left_by : After → Left
left_by a = left (words_of a.answer a.control) a.memory a.output

-- the layout test alone: rows 1 and 2
unfoldable pub layout_words : Control → Memory → Words
layout_words c m = let n = stopped (memory_rows c m) in cond (eqb n 0) (words 1 0 0 c) (words 0 n 0 c)
