-- What the contracts of the one-copy order cite.
pub mod Fault
pub mod Order
pub mod Replay
