pub mod Checks
pub mod Finished
pub mod Decoding
pub mod Writing
