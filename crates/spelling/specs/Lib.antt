pub mod Names
pub mod Answers
pub mod Writing
