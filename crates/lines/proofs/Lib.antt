-- Laws for the proofs of this crate.
pub mod BuildLaws
pub mod CursorLaws
pub mod Examples
pub mod InputLaws
pub mod MistakeLaws
pub mod ParseLaws
pub mod TextLaws
