pub mod Numbers
pub mod Parse
pub mod Rows
pub mod Long
pub mod Limits
