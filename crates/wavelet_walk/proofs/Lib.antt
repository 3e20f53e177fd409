pub mod Questions
pub mod Descending
pub mod Whole
