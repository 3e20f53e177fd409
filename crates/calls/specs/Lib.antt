pub mod Refusals
pub mod Calls
pub mod Limits
pub mod Reading
pub mod Leaves
