pub mod Reading
pub mod Leaves
