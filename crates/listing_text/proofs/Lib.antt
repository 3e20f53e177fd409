pub mod Clipping
pub mod Printing
pub mod Answering
