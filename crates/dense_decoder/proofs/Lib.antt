pub mod Front
pub mod Scanning
pub mod Reading
