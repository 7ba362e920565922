-- What the contracts of convert cite.
pub mod Fault
pub mod Held
pub mod Names
pub mod Outcome
pub mod Sentences
