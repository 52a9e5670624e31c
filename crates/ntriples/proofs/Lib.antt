pub mod Tails
pub mod TermKinds
