pub mod Appending
pub mod Leaves
