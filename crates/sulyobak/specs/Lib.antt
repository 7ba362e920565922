-- What the calls leave, as C sees it.
pub mod Words
pub mod VanWords
pub mod OldWords
