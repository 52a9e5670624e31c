pub mod Codes
pub mod Sets
pub mod Questions
pub mod Stores
