-- What a call answers, and the number and values of documents 01 and 02 for each case of the code's answers.
use Rattle.std.specs.Prelude.{Result, Ok, Err, ℕ}
use Rattle.carts.specs.declared.refusal.Refusal.{Refusal}
use Rattle.carts.specs.Refusal.{refusal_number}
use Rattle.replication.specs.declared.answer.Reading.{Reading}
use Rattle.replication.specs.declared.answer.Reading.TheVariants.{Answered, Waits}

-- "The result is the number" of a row; a commit's number, sent or applied, or by S-6 "the message's length"; "waits, with the session's
-- number"; "state and found"
pub data Answer : Type 0 where
  refused : ℕ → Answer
  done : ℕ → Answer
  waits : ℕ → Answer
  answered : ℕ → ℕ → Answer

-- an accepted setup has no number in 01: 0
abbrev pub setup_answer : Result (Unit {0}) Refusal → Answer
setup_answer (Ok _) = done 0
setup_answer (Err r) = refused (refusal_number r)

abbrev pub count_answer : Result ℕ Refusal → Answer
count_answer (Ok n) = done n
count_answer (Err r) = refused (refusal_number r)

abbrev pub read_answer : Result Reading Refusal → Answer
read_answer (Ok (Answered state found)) = answered state found
read_answer (Ok (Waits n)) = waits n
read_answer (Err r) = refused (refusal_number r)
