pub mod Writing
pub mod Leaves
