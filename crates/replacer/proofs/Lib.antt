pub mod Rows
pub mod Replacing
pub mod Plans
