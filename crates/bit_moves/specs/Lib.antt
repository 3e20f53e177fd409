pub mod Splices
pub mod Leaves
