pub mod Triples
pub mod Graphs
pub mod Tallies
pub mod Sizes
pub mod Additions
pub mod Lawfulness
pub mod Matching
