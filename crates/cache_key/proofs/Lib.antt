pub mod Apart
pub mod Digits
