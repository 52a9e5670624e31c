pub mod Finding
pub mod Interning
pub mod Seeing
pub mod Keeping
