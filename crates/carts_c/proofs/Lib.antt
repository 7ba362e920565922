-- Laws on the definitions of specs/ for the proofs of this crate.
pub mod SearchLaws
