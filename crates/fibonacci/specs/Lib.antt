pub mod Code
pub mod Encoding
pub mod Leaves
