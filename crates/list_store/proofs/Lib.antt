pub mod Among
pub mod Finding
pub mod Growth
pub mod Leasts
