pub mod Code
pub mod Encoding
pub mod Limits
pub mod Leaves
