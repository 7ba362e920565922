-- Who answered, what a refused move is told to name, and worked examples.
pub mod AnsweredLaws
pub mod KnownLaws
pub mod Examples
