-- What the contracts of reports cite.
pub mod Answered
pub mod Known
pub mod Lines
