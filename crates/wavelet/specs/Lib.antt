pub mod Nodes
pub mod Bitmaps
pub mod Questions
pub mod Leaves
