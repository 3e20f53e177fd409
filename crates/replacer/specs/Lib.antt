pub mod Replacing
pub mod Leaves
