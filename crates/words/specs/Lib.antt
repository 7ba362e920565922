-- What the contracts of words cite.
pub mod Answers
pub mod Page
pub mod Request
