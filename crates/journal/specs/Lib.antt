-- What the contracts of the journal cite.
pub mod History
pub mod Progress
pub mod Status
