-- Laws for the proofs of this crate.
pub mod HistoryLaws
pub mod KindLaws
pub mod ProgressLaws
