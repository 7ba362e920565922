-- What the van's receiver answers, and document 02's words (S-6) for each case of the code's answers.
use Rattle.std.specs.Prelude.{Result, Ok, Err, ℕ}
use Rattle.carts.specs.declared.refusal.Refusal.{Refusal}
use Rattle.carts.specs.Refusal.{refusal_number}
use Rattle.van.specs.declared.answer.Received.{Received}
use Rattle.van.specs.declared.answer.Received.TheVariants.{Applied, Held}

-- a refusal's number; "applies number applied + 1 and returns it"; "answers a number already applied as held"
pub data Answer : Type 0 where
  refused : ℕ → Answer
  applied : ℕ → Answer
  held : ℕ → Answer

-- the code's cases
abbrev pub receive_answer : Result Received Refusal → Answer
receive_answer (Ok (Applied n)) = applied n
receive_answer (Ok (Held n)) = held n
receive_answer (Err r) = refused (refusal_number r)
