pub mod Rule
pub mod Moving
