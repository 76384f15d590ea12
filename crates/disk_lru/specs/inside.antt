pub mod Evicting
pub mod Kept
pub mod Rebuilds
