-- 02, S-10: what a conversion hands back to C. The quotes are the issue's.
use Rattle.std.specs.Prelude.{cond, List, ℕ, eqb}
use Rattle.carts.specs.Bytes.{zeros}
use Rattle.replication.specs.Memory.{session_count}
use Rattle.replication.specs.Calls.{control_of}
use Rattle.replication.specs.declared.control.Control.{Control}
use Rattle.old_edition.specs.Convert.{Answer, refused, written, After}
use Rattle.sulyobak.specs.Words.{words}
use Rattle.sulyobak.specs.declared.words.Words.{Words}

-- "control all zero"
abbrev pub no_control : Control
no_control = control_of 0 (zeros session_count) 0 0

-- 0 refused: the row's number; 1 done: "the bytes written"
abbrev pub old_words_of : Answer → Words
old_words_of (refused n) = words 0 n 0 no_control
old_words_of (written n) = words 1 n 0 no_control

-- the answer that words stand for: C's way back, by which nothing is lost (proofs/WordLaws.antt, `old_words_tell`)
abbrev pub old_answer_by : Words → Answer
old_answer_by w = cond (eqb w.kind 0) (refused w.value) (written w.value)

-- the words, and the output that a conversion leaves
pub record OldLeft : Type 0 where
  pub words : Words
  pub output : List ℕ

abbrev pub old_left : Words → List ℕ → OldLeft
old_left w out = record { words = w; output = out }

abbrev pub old_left_by : After → OldLeft
old_left_by a = old_left (old_words_of a.answer) a.output
