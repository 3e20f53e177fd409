pub mod Filling
pub mod Building
