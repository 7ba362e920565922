-- Worked examples, and a law of the sentences.
pub mod Examples
pub mod RefusalLaws
