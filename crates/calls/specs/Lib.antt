-- The calls of a transcript: what a line leaves, and what is kept of it.
pub mod Make
pub mod Keep
pub mod Lent
