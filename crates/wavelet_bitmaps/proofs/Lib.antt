pub mod Partitioning
pub mod Subtrees
