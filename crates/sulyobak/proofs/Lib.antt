-- Laws on the words of an answer.
pub mod WordLaws
