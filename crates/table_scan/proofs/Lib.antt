pub mod Refusing
pub mod Inside
pub mod Stepping
pub mod Walking
