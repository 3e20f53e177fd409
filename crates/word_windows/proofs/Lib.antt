pub mod Starts
pub mod Loading
pub mod Found
