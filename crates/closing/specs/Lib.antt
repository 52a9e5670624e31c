pub mod Kinds
pub mod Steps
pub mod Passes
pub mod Seeds
pub mod Closes
