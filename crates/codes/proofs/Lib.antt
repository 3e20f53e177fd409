pub mod Parse
pub mod Codes
pub mod Lengths
