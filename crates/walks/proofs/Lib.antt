pub mod Walking
pub mod Matching
pub mod Giving
