pub mod Terms
pub mod Calls
pub mod Spans
