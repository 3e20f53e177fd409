pub mod Computed
pub mod Runs
pub mod Numeration
pub mod Numbers
pub mod Parse
pub mod Rows
pub mod Lookup
pub mod Sums
