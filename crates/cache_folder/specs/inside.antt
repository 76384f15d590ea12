pub mod Leaving
pub mod Loading
pub mod Reading
