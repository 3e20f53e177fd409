pub mod Measuring
pub mod Writing
