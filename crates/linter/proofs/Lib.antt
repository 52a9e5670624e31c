pub mod Judgements
pub mod Tallies
pub mod Bytes
pub mod Walks
