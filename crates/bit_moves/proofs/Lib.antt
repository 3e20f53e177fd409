pub mod Words
pub mod Moves
pub mod Splices
