-- Laws for the proofs of this crate and of the crates above, and worked examples.
pub mod Examples
pub mod PageLaws
pub mod RequestLaws
