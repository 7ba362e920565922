-- Laws for the proofs of this crate, and worked examples.
pub mod Examples
pub mod FaultLaws
pub mod OrderLaws
pub mod PlaceLaws
pub mod ReplayLaws
