-- Laws for the proofs of this crate, and worked examples.
pub mod Examples
pub mod FaultLaws
pub mod HeldLaws
pub mod OutcomeLaws
pub mod PartLaws
