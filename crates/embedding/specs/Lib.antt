pub mod Kinds
pub mod Embeddings
pub mod Deciding
pub mod Laws
pub mod Bound
pub mod Searching
