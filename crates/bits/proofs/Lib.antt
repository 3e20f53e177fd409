pub mod Words
pub mod Bytes
pub mod Fit
pub mod Packing
pub mod Put
pub mod Count
pub mod Select
