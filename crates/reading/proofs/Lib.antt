pub mod Reached
pub mod Checking
pub mod Decoding
