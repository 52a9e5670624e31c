pub mod Sheets
pub mod Closings
pub mod Filling
