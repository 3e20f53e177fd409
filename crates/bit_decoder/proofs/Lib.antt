pub mod Ones
pub mod Seeking
