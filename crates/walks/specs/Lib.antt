pub mod Steps
pub mod Copies
pub mod Selections
