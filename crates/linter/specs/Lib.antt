pub mod Verdicts
pub mod Answers
pub mod Adding
pub mod Sentences
