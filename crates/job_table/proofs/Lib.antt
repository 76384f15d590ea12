pub mod Edits
pub mod Guards
pub mod Looking
pub mod Sorted
