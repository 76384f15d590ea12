pub mod Evictions
pub mod Alike
pub mod Lasts
pub mod Stored
pub mod Steps
pub mod Least
pub mod Limits
