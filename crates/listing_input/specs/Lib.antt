pub mod Input
pub mod Leaves
