pub mod Extending
pub mod Documents
pub mod Labels
pub mod Appending
pub mod Striking
pub mod Soundness
