pub mod Checking
pub mod Sizes
pub mod Putting
pub mod Writing
