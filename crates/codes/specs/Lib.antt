pub mod Rows
pub mod Parse
