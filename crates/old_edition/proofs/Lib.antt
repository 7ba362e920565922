-- Laws of old carts and of converted carts, the theorems of S-10, and worked examples.
pub mod OldCartLaws
pub mod EachCartLaws
pub mod Examples
pub mod ConvertLaws
pub mod MadeLaws
pub mod Theorems
