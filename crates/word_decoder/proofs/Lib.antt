pub mod Taking
pub mod Told
