pub mod Lists
pub mod Each
pub mod Filter
pub mod Members
pub mod Sums
